-- A list that passes checks 1 to 8, with one more cable, whose parts have room in their fields: what each of checks 1 to 8 finds. Checks 1
-- to 4 find nothing, 5 and 6 nothing but the new word, and 8 nothing but its two parts. Assumes nothing.
use Rattle.std.specs.Prelude.{Some, None}
use Prim.Native.Nat.{ℕ, suc, ◌+◌, ◌-◌, ◌<◌, ◌≤◌, min, max}
use native.Mathlib.Omega.{arith}
use native.Mathlib.Decide.{ℕ_discrete, dec_lt}
use mathlib.Core.Path.{◌≡◌, refl, sym, ap, ◌∙◌}
use mathlib.Core.Bool.{Bool, true, false, ◌||◌, or-true}
use mathlib.Core.List.Memᴰ
use mathlib.Core.List.{List, [], ◌∷◌, ◌++◌}
use borrow.Author.Tests.{eq-eqb, ne_eqb, lt-ltb, le-ltb}
use lib.ListN.{length, get_or, set, length-set}
use lib.Seq.{get_or-append_seam}
use lib.Dec.{eqb, ltb}
use Rattle.lists.specs.Search.{seek}
use Rattle.lists.specs.Select.{one_if, count, filter}
use Rattle.lists.proofs.Seek.{seek_last, seek_none, seek_nothing, seek_first}
use Rattle.lists.proofs.Sums.{count_append}
use Rattle.lists.proofs.Tests.{one_if_le}
use Rattle.words.specs.Words.{kind_of, spare_of, first_of, second_of, parts_of, cables_of, list_head, cable_word}
use Rattle.words.specs.Limits.{least_parts, most_parts, most_degree, most_field}
use Rattle.station.specs.Station.{cable_of, station_of, joins, degree}
use Rattle.checks.specs.declared.Fault.TheVariants as faults
use Rattle.checks.specs.Checks.{first_refusal, Clear, at_when}
use Rattle.station.specs.Checks.{check1, kind_at, misplaced, check2, check3, check4, outside, check5, check6, check8, list_checks}
use Rattle.station.specs.Code.{up_to}
use Rattle.station.proofs.UpTo.{clear_up_to}
use Rattle.checks.proofs.FirstRefusal.{clear_each, clear_more}
use Rattle.station.proofs.Each.{two_words, placed, words_due, parts_between, different, degree_most}
use Rattle.station.proofs.Tests.{misplaced_head, misplaced_spare, length_right, parts_right}
use Rattle.station.proofs.Cables.{parts_are, cables_count}
use Rattle.station.proofs.Passed.{wired, cables_most}
use Rattle.editor.specs.Rows.{raised_by, followed_by, longer}
use Rattle.editor.proofs.Tests.{first_is, second_is}
use Rattle.editor.proofs.Followed.{raised_parts, raised_cables, raised_kind, length_followed, head_followed, word_followed, cables_followed}

module _ (list : List ℕ) (C : Clear list_checks list) where
  all : Clear (up_to 8) list
  all = clear_up_to list 8 C

  pub two : 2 ≤ length list
  two = two_words list 8 all (omega arith)

  pub due : length list ≡ cables_of (get_or list 0 0) + 2
  due = words_due list 8 all (omega arith)

  pub between : (least_parts ≤ parts_of (get_or list 0 0)) × (parts_of (get_or list 0 0) ≤ most_parts)
  between = parts_between list 8 all (omega arith)

  pub kind : kind_of (get_or list 0 0) ≡ list_head
  unfolding kind_at
  kind = (placed list 8 all (omega arith) 0 (omega (arith, two))).0

  -- so that a head has room for one more
  pub few : cables_of (get_or list 0 0) + 1 < 65536
  few = omega (arith, due, cables_count list, cables_most (station_of list) (wired list C))

  module _ (one other : ℕ) (a : one ≤ most_field) (b : other ≤ most_field) where
    abbrev new : List ℕ
    new = longer one other list

    abbrev word : ℕ
    word = cable_word one other

    -- ---- the words of the longer list
    pub length_longer : length new ≡ length list + 1
    unfolding longer
    length_longer = length_followed list (word ∷ []) (omega (arith, two))

    head_longer : get_or new 0 0 ≡ raised_by 1 (get_or list 0 0)
    unfolding longer
    head_longer = head_followed list (word ∷ []) (omega (arith, two))

    word_kept : (i : ℕ) → 1 ≤ i → i < length list → get_or new i 0 ≡ get_or list i 0
    unfolding longer
    word_kept i h l = word_followed list (word ∷ []) (omega (arith, two)) i h l

    word_last : get_or new (length list) 0 ≡ word
    unfolding longer followed_by
    word_last =
        let e : length (set list 0 (raised_by 1 (get_or list 0 0))) ≡ length list = length-set list 0 (raised_by 1 (get_or list 0 0)) in
        ap (λ (k : ℕ). get_or (set list 0 (raised_by 1 (get_or list 0 0)) ++ (word ∷ [])) k 0) (sym e)
        ∙ get_or-append_seam (set list 0 (raised_by 1 (get_or list 0 0))) word [] 0

    pub parts_longer : parts_of (get_or new 0 0) ≡ parts_of (get_or list 0 0)
    parts_longer = ap parts_of head_longer ∙ raised_parts (get_or list 0 0) 1 few

    cables_longer : cables_of (get_or new 0 0) ≡ cables_of (get_or list 0 0) + 1
    cables_longer = ap cables_of head_longer ∙ raised_cables (get_or list 0 0) 1 few

    head_kind : kind_of (get_or new 0 0) ≡ list_head
    head_kind = ap kind_of head_longer ∙ raised_kind (get_or list 0 0) 1 few

    -- ---- checks 1 to 4
    one_clear : check1 new ≡ None
    unfolding check1 at_when
    one_clear = rw (le-ltb (length new) 2 (omega (arith, length_longer, two)))

    placed_right : (i : ℕ) → i < length new → Dec (i ≡ 0) → Dec (i < length list) → misplaced i (get_or new i 0) ≡ false
    unfolding list_checks check2 kind_at
    placed_right i h (yes e) d = rw e (sym (misplaced_head 0 (get_or new 0 0) head_kind head_kind))
    placed_right i h (no n) (yes l) =
        rw (word_kept i (omega arith) l)
        (seek_nothing (λ j. misplaced j (get_or list j 0)) 0 (length list) (clear_each list list_checks C (Memᴰ.tail (Memᴰ.head refl))) i (omega arith) (omega arith))
    placed_right i h (no n) (no g) =
        let e : i ≡ length list = omega (arith, length_longer) in
        rw (e, word_last)
        (sym (misplaced_spare (length list) word
        (rw (ne_eqb (length list) 0 (λ q. omega (arith, two)), ne_eqb (length list) 1 (λ q. omega (arith, two))) (omega arith))
        (λ q. omega arith))
        ∙ rw (eq-eqb (spare_of word) 0 (omega arith)))

    two_clear : check2 new ≡ None
    unfolding check2
    two_clear = seek_none (λ i. misplaced i (get_or new i 0)) 0 (length new) (λ i g h. placed_right i (omega arith) (ℕ_discrete i 0) (dec_lt i (length list)))

    three_clear : check3 new ≡ None
    three_clear = sym (length_right new (omega (arith, length_longer, due, cables_longer)))

    four_clear : check4 new ≡ None
    four_clear = sym (parts_right new (omega (arith, between.0, parts_longer)) (omega (arith, between.1, parts_longer)))

    -- checks 1 to 4 find nothing
    pub form_clear : Clear (up_to 4) (longer one other list)
    unfolding list_checks filter first_refusal
    form_clear =
        clear_more new (up_to 3) (record { fault = faults.WrongPartCount; finds = check4 })
        (clear_more new (up_to 2) (record { fault = faults.WrongLength; finds = check3 })
        (clear_more new (up_to 1) (record { fault = faults.MisplacedWord; finds = check2 }) (clear_more new (up_to 0) (record { fault = faults.TooFewWords; finds = check1 }) refl one_clear) two_clear)
        three_clear)
        four_clear

    -- ---- checks 5 and 6
    behind_first : length new - 1 ≡ suc (length list - 1)
    behind_first = omega (arith, length_longer, two)

    -- the new word alone decides a search over the words from 1 on, where the list passes
    new_decides : (test : ℕ → Bool) → ((i : ℕ) → 1 ≤ i → i < length list → test (get_or list i 0) ≡ false)
        → seek (λ i. test (get_or new i 0)) 1 (length new - 1) ≡ at_when (test word) (length list)
    unfolding at_when
    new_decides test none =
        let e : 1 + (length list - 1) ≡ length list = omega (arith, two) in
        rw behind_first
        (seek_last (λ i. test (get_or new i 0)) 1 (length list - 1) (λ i g h. ap test (word_kept i g (omega arith)) ∙ none i g (omega arith))
        ∙ rw (e, word_last))

    pub five_last : check5 (longer one other list) ≡ at_when (outside (parts_of (get_or list 0 0)) (cable_word one other)) (length list)
    unfolding check5 list_checks
    five_last =
        let n = parts_of (get_or list 0 0) in
        rw parts_longer
        (new_decides (outside n)
        (λ i g h. seek_nothing (λ j. outside n (get_or list j 0)) 1 (length list - 1)
        (clear_each list list_checks C (Memᴰ.tail (Memᴰ.tail (Memᴰ.tail (Memᴰ.tail (Memᴰ.head refl)))))) i g (omega arith)))

    pub six_last : check6 (longer one other list) ≡ at_when (eqb one other) (length list)
    unfolding check6
    six_last =
        new_decides (λ w. eqb (first_of w) (second_of w)) (λ i g h. ne_eqb (first_of (get_or list i 0)) (second_of (get_or list i 0)) (different list 8 all (omega arith) i g h))
        ∙ rw (first_is one other a b, second_is one other a b)

    -- ---- check 8
    -- one cable more at each of its two parts
    degree_longer : (p : ℕ) → degree (station_of new).cables p ≡ degree (station_of list).cables p + one_if (eqb one p || eqb other p)
    unfolding degree joins cable_of count longer
    degree_longer p =
        ap (count (joins p)) (cables_followed list (word ∷ []) two)
        ∙ count_append (joins p) (station_of list).cables (cable_of word ∷ [])
        ∙ rw (first_is one other a b, second_is one other a b) (omega arith)

    -- the longer list's test of a part
    over : ℕ → Bool
    over p = ltb most_degree (degree (station_of new).cables p)

    over_one : (p : ℕ) → p ≡ one → most_degree ≤ degree (station_of list).cables p → over p ≡ true
    unfolding over
    over_one p e h =
        let q : one_if (eqb one p || eqb other p) ≡ 1 = rw (eq-eqb one p (sym e)) in
        lt-ltb most_degree (degree (station_of new).cables p) (omega (arith, degree_longer p, q))

    over_other : (p : ℕ) → p ≡ other → most_degree ≤ degree (station_of list).cables p → over p ≡ true
    unfolding over
    over_other p e h =
        let q : one_if (eqb one p || eqb other p) ≡ 1 = rw (eq-eqb other p (sym e), or-true) in
        lt-ltb most_degree (degree (station_of new).cables p) (omega (arith, degree_longer p, q))

    -- a part that has room, or that the cable does not join
    not_over : (p : ℕ) → p < parts_of (get_or list 0 0) → (p ≡ one → degree (station_of list).cables p < most_degree) → (p ≡ other → degree (station_of list).cables p < most_degree) → over p ≡ false
    unfolding over
    not_over p l f g = le-ltb most_degree (degree (station_of new).cables p) (go (ℕ_discrete p one) (ℕ_discrete p other))
      where
        joined_le : one_if (eqb one p || eqb other p) ≤ 1
        joined_le = one_if_le (eqb one p || eqb other p)

        go : Dec (p ≡ one) → Dec (p ≡ other) → degree (station_of new).cables p ≤ most_degree
        go (yes e) d = omega (arith, degree_longer p, joined_le, f e)
        go (no n) (yes e) = omega (arith, degree_longer p, joined_le, g e)
        go (no n) (no m) =
            let q : one_if (eqb one p || eqb other p) ≡ 0 = rw (ne_eqb one p (λ z. n (sym z)), ne_eqb other p (λ z. m (sym z))) in
            omega (arith, degree_longer p, q, degree_most list 8 all (omega arith) p (omega (arith, parts_are list)))

    -- it looks at the same parts, from the lowest on
    parts_same : (station_of new).parts ≡ parts_of (get_or list 0 0)
    parts_same = parts_are new ∙ parts_longer

    module _ (h : one < parts_of (get_or list 0 0)) (k : other < parts_of (get_or list 0 0)) where
      room_below : (p : ℕ) → p < min one other → over p ≡ false
      room_below p l = not_over p (omega arith) (λ e. absurd (omega arith)) (λ e. absurd (omega arith))

      -- the lower of the two parts has as many cables as it may
      eight_lower : most_degree ≤ degree (station_of list).cables (min one other) → check8 (longer one other list) ≡ Some (min one other)
      unfolding check8 over
      eight_lower full =
          rw parts_same
          (seek_first over 0 (parts_of (get_or list 0 0)) (record { from = omega arith; below = omega arith; passes = go (dec_lt one other); none = λ p a l. room_below p l }))
        where
          go : Dec (one < other) → over (min one other) ≡ true
          go (yes l) = over_one (min one other) (omega arith) full
          go (no l) = over_other (min one other) (omega arith) full

      module _ (room : degree (station_of list).cables (min one other) < most_degree) where
        room_between : (p : ℕ) → p < max one other → Dec (p ≡ min one other) → over p ≡ false
        room_between p l (yes e) = not_over p (omega arith) (λ q. rw e room) (λ q. rw e room)
        room_between p l (no n) = not_over p (omega arith) (λ q. absurd (omega arith)) (λ q. absurd (omega arith))

        -- the higher one alone
        eight_higher : most_degree ≤ degree (station_of list).cables (max one other) → check8 (longer one other list) ≡ Some (max one other)
        unfolding check8 over
        eight_higher full =
            rw parts_same
            (seek_first over 0 (parts_of (get_or list 0 0))
            (record { from = omega arith; below = omega arith; passes = go (dec_lt one other); none = λ p a l. room_between p l (ℕ_discrete p (min one other)) }))
          where
            go : Dec (one < other) → over (max one other) ≡ true
            go (yes l) = over_other (max one other) (omega arith) full
            go (no l) = over_one (max one other) (omega arith) full

        -- neither
        eight_clear : degree (station_of list).cables (max one other) < most_degree → check8 (longer one other list) ≡ None
        unfolding check8 over
        eight_clear more = rw parts_same (seek_none over 0 (parts_of (get_or list 0 0)) (λ p a l. go p l (ℕ_discrete p (min one other)) (ℕ_discrete p (max one other))))
          where
            go : (p : ℕ) → p < 0 + parts_of (get_or list 0 0) → Dec (p ≡ min one other) → Dec (p ≡ max one other) → over p ≡ false
            go p l (yes e) d = not_over p (omega arith) (λ q. rw e room) (λ q. rw e room)
            go p l (no n) (yes e) = not_over p (omega arith) (λ q. rw e more) (λ q. rw e more)
            go p l (no n) (no m) = not_over p (omega arith) (λ q. absurd (omega arith)) (λ q. absurd (omega arith))

  -- ---- check 8 between parts of the station
  module _ (one other : ℕ) (h : one < (station_of list).parts) (k : other < (station_of list).parts) where
    low : one < parts_of (get_or list 0 0)
    low = omega (arith, parts_are list)

    high : other < parts_of (get_or list 0 0)
    high = omega (arith, parts_are list)

    small_one : one ≤ most_field
    small_one = omega (arith, low, between.1)

    small_other : other ≤ most_field
    small_other = omega (arith, high, between.1)

    pub lower_part_lem : min one other < most_parts
    lower_part_lem = omega (arith, low, between.1)

    pub higher_part : max one other < most_parts
    higher_part = omega (arith, low, high, between.1)

    pub crowded_lower : most_degree ≤ degree (station_of list).cables (min one other) → check8 (longer one other list) ≡ Some (min one other)
    crowded_lower full = eight_lower one other small_one small_other low high full

    pub crowded_higher : degree (station_of list).cables (min one other) < most_degree → most_degree ≤ degree (station_of list).cables (max one other)
        → check8 (longer one other list) ≡ Some (max one other)
    crowded_higher room full = eight_higher one other small_one small_other low high room full

    pub crowded_neither : degree (station_of list).cables (min one other) < most_degree → degree (station_of list).cables (max one other) < most_degree
        → check8 (longer one other list) ≡ None
    crowded_neither room more = eight_clear one other small_one small_other low high room more
