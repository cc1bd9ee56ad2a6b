-- Request 2026-08: 'the sort in bits 27 to 24: 0 a joint without a number, 1 a pad .., 2 an amplifier ..'. Assumes nothing.
use Rattle.std.specs.Prelude.{◌≡◌, ℕ, ◌<◌, Result, Ok, Err}
use Rattle.words.specs.Words.{joint_sort, pad_sort, amplifier_sort}
use Rattle.signals.specs.declared.sorts.PartSort.{PartSort}
use Rattle.signals.specs.declared.sorts.PartSort.TheVariants.{Joint, Pad, Amplifier}
use Rattle.signals.specs.declared.sorts.UnknownSort.{UnknownSort}

abbrev pub sort_number : PartSort → ℕ
sort_number Joint = joint_sort
sort_number Pad = pad_sort
sort_number Amplifier = amplifier_sort

-- the sort of a number, or the number, where it is above those of all sorts
abbrev pub NamesSort : ℕ → Result PartSort UnknownSort → Type 0
NamesSort number (Ok sort) = sort_number sort ≡ number
NamesSort number (Err unknown) = (unknown.0 ≡ number) × (amplifier_sort < number)
