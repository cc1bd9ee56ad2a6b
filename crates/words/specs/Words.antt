-- Document 01, 'The words', the two kinds of request 2026-01, the ones of 2026-05, 2026-08 and 2026-10, and the marks of 2026-10: each kind
-- of word made and taken apart, over ℕ. Assumes nothing.
use Rattle.std.specs.Prelude.{◌≡◌, ℕ, ◌+◌, ◌*◌, ◌/◌, ◌%◌, Result, Ok, Err}
use Rattle.words.specs.declared.Kind.{Kind}
use Rattle.words.specs.declared.Kind.TheVariants as kinds
use Rattle.words.specs.declared.UnknownKind.{UnknownKind}

-- 'The top four bits (31 to 28) are the kind.'
abbrev pub kind_of : ℕ → ℕ
kind_of w = w / 0x1000_0000

-- bits 27 to 24, zero in every kind with two 12-bit fields
abbrev pub spare_of : ℕ → ℕ
spare_of w = w / 0x100_0000 % 16

-- 'two 12-bit fields follow, the first in bits 23 to 12, the second in 11 to 0'
abbrev pub first_of : ℕ → ℕ
first_of w = w / 4096 % 4096

abbrev pub second_of : ℕ → ℕ
second_of w = w % 4096

-- kinds 1 to 7: list head, ends, a list's cable, sheet head, a part's x and y, a sheet's cable, a corner's x and y
abbrev pub list_head : ℕ
list_head = 1

abbrev pub ends : ℕ
ends = 2

abbrev pub cable : ℕ
cable = 3

abbrev pub sheet_head : ℕ
sheet_head = 4

abbrev pub part : ℕ
part = 5

abbrev pub sheet_cable : ℕ
sheet_cable = 6

abbrev pub corner : ℕ
corner = 7

-- 2026-01: 'm words of kind 8 .. then one of kind 10', the lengths of the cables and their total
abbrev pub cable_length : ℕ
cable_length = 8

abbrev pub total_length : ℕ
total_length = 10

-- 2026-05: 'words of kind 0', prices
abbrev pub price : ℕ
price = 0

-- a word of a kind with two 12-bit fields
abbrev pub fields : ℕ → ℕ → ℕ → ℕ
fields kind a b = kind * 0x1000_0000 + a * 4096 + b

-- 'list head: n in bits 27 to 16, m in bits 15 to 0'
abbrev pub list_head_word : ℕ → ℕ → ℕ
list_head_word n m = list_head * 0x1000_0000 + n * 65536 + m

abbrev pub parts_of : ℕ → ℕ
parts_of w = w / 65536 % 4096

abbrev pub cables_of : ℕ → ℕ
cables_of w = w % 65536

-- 'ends: source s, analyser t'
abbrev pub ends_word : ℕ → ℕ → ℕ
ends_word s t = fields ends s t

-- 'cable: its two parts'
abbrev pub cable_word : ℕ → ℕ → ℕ
cable_word a b = fields cable a b

-- 'sheet head: width, height'
abbrev pub sheet_head_word : ℕ → ℕ → ℕ
sheet_head_word w h = fields sheet_head w h

-- 'a part's x, y'
abbrev pub part_word : ℕ → ℕ → ℕ
part_word x y = fields part x y

-- a word of a kind with a line number in bits 27 to 12 and a field in bits 11 to 0
abbrev pub line_fields : ℕ → ℕ → ℕ → ℕ
line_fields kind line b = kind * 0x1000_0000 + line * 4096 + b

-- 'cable: line number in bits 27 to 12, count of corners in 11 to 0'
abbrev pub sheet_cable_word : ℕ → ℕ → ℕ
sheet_cable_word line corners = line_fields sheet_cable line corners

abbrev pub line_of : ℕ → ℕ
line_of w = w / 4096 % 65536

-- 'a corner's x, y'
abbrev pub corner_word : ℕ → ℕ → ℕ
corner_word x y = fields corner x y

-- 2026-01: 'the line in bits 27 to 12 and the grid steps along that cable's line in bits 11 to 0'
abbrev pub cable_length_word : ℕ → ℕ → ℕ
cable_length_word line steps = line_fields cable_length line steps

-- a word of a kind with one field in bits 27 to 0
abbrev pub wide_field : ℕ → ℕ → ℕ
wide_field kind a = kind * 0x1000_0000 + a

abbrev pub wide_of : ℕ → ℕ
wide_of w = w % 0x1000_0000

-- 2026-01: 'the total in bits 27 to 0'
abbrev pub total_length_word : ℕ → ℕ
total_length_word steps = wide_field total_length steps

abbrev pub total_of : ℕ → ℕ
total_of w = wide_of w

-- 2026-05: 'cents in bits 27 to 0'
abbrev pub price_word : ℕ → ℕ
price_word cents = wide_field price cents

abbrev pub cents_of : ℕ → ℕ
cents_of w = wide_of w

-- 2026-08: 'words of kind 9, by part number', the sorts of the parts
abbrev pub part_sort : ℕ
part_sort = 9

-- 'with the sort in bits 27 to 24: 0 a joint without a number, 1 a pad with its loss, 2 an amplifier with its gain'
abbrev pub joint_sort : ℕ
joint_sort = 0

abbrev pub pad_sort : ℕ
pad_sort = 1

abbrev pub amplifier_sort : ℕ
amplifier_sort = 2

-- 'Bits 23 to 16 are zero, and bits 15 to 0 count 1/64 dB'
abbrev pub part_sort_word : ℕ → ℕ → ℕ
part_sort_word sort steps = part_sort * 0x1000_0000 + sort * 0x100_0000 + steps

abbrev pub sort_of : ℕ → ℕ
sort_of w = w / 0x100_0000 % 16

abbrev pub sort_spare_of : ℕ → ℕ
sort_spare_of w = w / 65536 % 256

abbrev pub steps_of : ℕ → ℕ
steps_of w = w % 65536

-- 2026-10: what lies at a mark, in words of a kind of ours
abbrev pub hit : ℕ
hit = 11

-- the kinds by their numbers
abbrev pub kind_number : Kind → ℕ
kind_number kinds.Price = price
kind_number kinds.ListHead = list_head
kind_number kinds.Ends = ends
kind_number kinds.Cable = cable
kind_number kinds.SheetHead = sheet_head
kind_number kinds.Part = part
kind_number kinds.SheetCable = sheet_cable
kind_number kinds.Corner = corner
kind_number kinds.CableLength = cable_length
kind_number kinds.PartSort = part_sort
kind_number kinds.TotalLength = total_length
kind_number kinds.Hit = hit

-- the kind of a number, or the number, where no kind has it
abbrev pub NamesKind : ℕ → Result Kind UnknownKind → Type 0
NamesKind number (Ok kind) = kind_number kind ≡ number
NamesKind number (Err unknown) = (unknown.0 ≡ number) × ((kind : Kind) → kind_number kind ≡ number → ⊥)

-- 'blank, one part, one cable, or two cables crossing', in bits 27 to 24
abbrev pub blank_hit : ℕ
blank_hit = 0

abbrev pub part_hit : ℕ
part_hit = 1

abbrev pub cable_hit : ℕ
cable_hit = 2

abbrev pub crossing_hit : ℕ
crossing_hit = 3

-- and what it names in two 12-bit fields; the sort is taken out as that of a part is, the fields as those of other kinds are
abbrev pub hit_word : ℕ → ℕ → ℕ → ℕ
hit_word sort a b = hit * 0x1000_0000 + sort * 0x100_0000 + a * 4096 + b

-- 2026-10: a mark is a word without a kind, x in bits 31 to 16 and y in 15 to 0: every word is one
abbrev pub mark_word : ℕ → ℕ → ℕ
mark_word x y = x * 65536 + y

abbrev pub mark_x : ℕ → ℕ
mark_x w = w / 65536

abbrev pub mark_y : ℕ → ℕ
mark_y w = w % 65536
