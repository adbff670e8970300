-- A card is taken from bytes exactly where they are the card of such records. Assumes nothing.
use Prim.Native.Nat.{ℕ, ◌+◌, ◌-◌, ◌^◌, ◌<◌, ◌≤◌}
use native.Mathlib.Omega.{arith}
use mathlib.Core.Path.{◌≡◌, refl, ap, sym, subst, ◌∙◌}
use mathlib.Core.Bool.{Bool, true, false, cond, ◌&&◌}
use mathlib.Core.Option.{Option, some, none, get_or}
use mathlib.Core.List.{List, [], ◌∷◌, ◌++◌, append_assoc, append-nil}
use lib.ListN.{length, length-append}
use lib.Dec.{eqb, leb, ltb}
use borrow.Author.Tests.{leb-true, ltb-true, eqb-true, eq-eqb, le-leb, lt-ltb}
use Rattle.std.proofs.lemmas.Bool.{and_parts}
use Rattle.rules.specs.Limits.{note_limit}
use Rattle.rules.specs.Values.{is_power_of_two}
use Rattle.rules.specs.Records.{is_some}
use Rattle.cards.specs.Fields.{number, stands, under, bit_map, in_row, each, every, holds, between}
use Rattle.cards.specs.Pieces.{bit_in}
use Rattle.cards.specs.Card.{Note, Head, Bar, Form, note_bytes, head_bits, head_bytes, bar_bytes, card_of, head_tests, such_note, such_head, bar_tests, such_bar, note_count, card_tests, such}
use Rattle.cards.specs.Answers.{HasCard, Found}
use Rattle.cards.specs.Taken.{Front, if_holds, byte_taken, number_taken, field_taken, key_taken, note_taken, notes_taken, head_in, counted, such_map, head_taken, bar_behind, bar_taken, bars_taken, front_taken, whole, card_taken}
use Rattle.cards.proofs.FieldLaws.{all_hold, bit-read, stands-not}
use Rattle.cards.proofs.TakenLaws.{taken_then, if_taken, byte_sound, number_sound, number_whole, low_bytes, field_sound, field_whole, TakenEach, repeated_sound, repeated_whole, taken_each, every_more}
use Rattle.cards.proofs.NoteTaken.{note_sound, note_whole}

-- ---- a bar's head

key_sound : (bit : Bool) (bytes : List ℕ) (y : Option ℕ × List ℕ) → key_taken bit bytes ≡ some y → (bytes ≡ under bit (get_or y.0 0 ∷ []) ++ y.1)
key_sound true bytes y e = taken_then (byte_taken bytes) _ e (λ key r f k.
    let s : (some key, r) ≡ y = cc in
    byte_sound bytes f ∙ (λ i. get_or (s i).0 0 ∷ (s i).1))
key_sound false bytes y e = let s : (none, bytes) ≡ y = cc in λ i. (s i).1

key_whole : (key : Option ℕ) (r : List ℕ) → key_taken (is_some key) (under (is_some key) (get_or key 0 ∷ []) ++ r) ≡ some (key, r)
key_whole none r = refl
key_whole (some k) r = refl

-- three bytes under one bit
three-under : (bit : Bool) (x y z : ℕ) (r : List ℕ) → under bit (x ∷ []) ++ (under bit (y ∷ []) ++ (under bit (z ∷ []) ++ r)) ≡ under bit (x ∷ y ∷ z ∷ []) ++ r
three-under true x y z r = refl
three-under false x y z r = refl

-- a head's bytes, front to back
row_is : (count : ℕ) (h : Head) (r : List ℕ) → bit_map (head_bits h) ∷ (number 4 count ++ (under (stands h.clef) (h.clef ∷ []) ++ (under (is_some h.key) (get_or h.key 0 ∷ []) ++ (under (stands h.numerator) (h.numerator ∷ []) ++ (under (stands h.numerator) (h.denominator ∷ []) ++ (under (stands h.numerator) (h.symbol ∷ []) ++ (under (stands h.left) (h.left ∷ []) ++ (under (stands h.right) (h.right ∷ []) ++ r))))))))
    ≡ head_bytes count h ++ r
unfolding head_bytes in_row
row_is count h r = rw (three-under (stands h.numerator) h.numerator h.denominator h.symbol) (simp (append_assoc, append-nil))

-- the same under the bits of its map
head-row : (map count : ℕ) (h : Head) (r : List ℕ) → bit_map (head_bits h) ≡ map
    → map ∷ (number 4 count ++ (under (bit_in 0 map) (h.clef ∷ []) ++ (under (bit_in 1 map) (get_or h.key 0 ∷ []) ++ (under (bit_in 2 map) (h.numerator ∷ []) ++ (under (bit_in 2 map) (h.denominator ∷ []) ++ (under (bit_in 2 map) (h.symbol ∷ []) ++ (under (bit_in 3 map) (h.left ∷ []) ++ (under (bit_in 4 map) (h.right ∷ []) ++ r))))))))
    ≡ head_bytes count h ++ r
head-row map count h r e =
    let bits = head_bits h in
    let b0 : bit_in 0 map ≡ stands h.clef = ap (bit_in 0) (sym e) ∙ bit-read 0 bits in
    let b1 : bit_in 1 map ≡ is_some h.key = ap (bit_in 1) (sym e) ∙ bit-read 1 bits in
    let b2 : bit_in 2 map ≡ stands h.numerator = ap (bit_in 2) (sym e) ∙ bit-read 2 bits in
    let b3 : bit_in 3 map ≡ stands h.left = ap (bit_in 3) (sym e) ∙ bit-read 3 bits in
    let b4 : bit_in 4 map ≡ stands h.right = ap (bit_in 4) (sym e) ∙ bit-read 4 bits in
    rw (b0, b1, b2, b3, b4, ← e) (row_is count h r)

-- a head of fields that are taken
pub head_of_fields : (bytes r0 r1 r2 r3 r4 r5 r6 r7 r8 : List ℕ) (map count clef numerator denominator symbol left right : ℕ) (key : Option ℕ) (h : Head)
    → byte_taken bytes ≡ some (map, r0) → number_taken 4 r0 ≡ some (count, r1) → field_taken (bit_in 0 map) r1 ≡ some (clef, r2) → key_taken (bit_in 1 map) r2 ≡ some (key, r3) → field_taken (bit_in 2 map) r3 ≡ some (numerator, r4)
    → field_taken (bit_in 2 map) r4 ≡ some (denominator, r5) → field_taken (bit_in 2 map) r5 ≡ some (symbol, r6) → field_taken (bit_in 3 map) r6 ≡ some (left, r7) → field_taken (bit_in 4 map) r7 ≡ some (right, r8)
    → head_in clef key numerator denominator symbol left right ≡ h → such_head h ≡ true → bit_map (head_bits h) ≡ map → head_taken bytes ≡ some ((count, h), r8)
unfolding head_taken
head_of_fields bytes r0 r1 r2 r3 r4 r5 r6 r7 r8 map count clef numerator denominator symbol left right key h e0 e1 e2 e3 e4 e5 e6 e7 e8 is s m =
    let n = head_in clef key numerator denominator symbol left right in
    let t : such_head n ≡ true = ap such_head is ∙ s in
    let b : bit_map (head_bits n) ≡ map = ap (λ (x : Head). bit_map (head_bits x)) is ∙ m in
    rw (e0, e1, e2, e3, e4, e5, e6, e7, e8, t, eq-eqb (bit_map (head_bits n)) map b) (λ i. some ((count, is i), r8))

pub head_sound : (bytes : List ℕ) (y : (ℕ × Head) × List ℕ) → head_taken bytes ≡ some y → (bytes ≡ head_bytes y.0.0 y.0.1 ++ y.1) × (such_head y.0.1 ≡ true)
unfolding head_taken
head_sound bytes y e =
    taken_then (byte_taken bytes) _ e (λ map r0 e0 k0.
    taken_then (number_taken 4 r0) _ k0 (λ count r1 e1 k1.
    taken_then (field_taken (bit_in 0 map) r1) _ k1 (λ clef r2 e2 k2.
    taken_then (key_taken (bit_in 1 map) r2) _ k2 (λ key r3 e3 k3.
    taken_then (field_taken (bit_in 2 map) r3) _ k3 (λ numerator r4 e4 k4.
    taken_then (field_taken (bit_in 2 map) r4) _ k4 (λ denominator r5 e5 k5.
    taken_then (field_taken (bit_in 2 map) r5) _ k5 (λ symbol r6 e6 k6.
    taken_then (field_taken (bit_in 3 map) r6) _ k6 (λ left r7 e7 k7.
    taken_then (field_taken (bit_in 4 map) r7) _ k7 (λ right r8 e8 k8.
    let h = head_in clef key numerator denominator symbol left right in
    let c = if_taken (such_head h && such_map (head_bits h) map) (counted count h) r8 k8 in
    let t = and_parts (such_head h) (such_map (head_bits h) map) c.0 in
    let row = head-row map count h r8 (eqb-true (bit_map (head_bits h)) map t.1) in
    let front : bytes ≡ head_bytes count h ++ r8 = rw (byte_sound bytes e0, number_sound 4 r0 e1, (field_sound (bit_in 0 map) r1 e2).0, key_sound (bit_in 1 map) r2 (key, r3) e3, (field_sound (bit_in 2 map) r3 e4).0, (field_sound (bit_in 2 map) r4 e5).0, (field_sound (bit_in 2 map) r5 e6).0, (field_sound (bit_in 3 map) r6 e7).0, (field_sound (bit_in 4 map) r7 e8).0) row in
    (front ∙ (λ i. head_bytes (c.1 i).0 (c.1 i).1 ++ c.2 i), (λ i. such_head (sym c.1 i).1) ∙ t.0))))))))))

head_by : (count c : ℕ) (h : Head) → number 4 count ≡ number 4 c → head_bytes count h ≡ head_bytes c h
unfolding head_bytes
head_by count c h e = rw e

pub head_whole : (count : ℕ) (h : Head) (r : List ℕ) → count < 256 ^ 4 → such_head h ≡ true → head_taken (head_bytes count h ++ r) ≡ some ((count, h), r)
unfolding head_taken such_head
head_whole count h r few s =
    let facts = all_hold (head_tests h) s in
    rw (
      ← row_is count h r,
      number_whole 4 count _ few,
      bit-read 0 (head_bits h),
      bit-read 1 (head_bits h),
      bit-read 2 (head_bits h),
      bit-read 3 (head_bits h),
      bit-read 4 (head_bits h),
      field_whole (stands h.clef) h.clef _ (stands-not h.clef),
      key_whole h.key,
      field_whole (stands h.numerator) h.numerator _ (stands-not h.numerator),
      field_whole (stands h.numerator) h.denominator _ (denominator (stands h.numerator) facts.1.1.1.0),
      field_whole (stands h.numerator) h.symbol _ (symbol (stands h.numerator) facts.1.1.1.1.0),
      field_whole (stands h.left) h.left _ (stands-not h.left),
      field_whole (stands h.right) h.right _ (stands-not h.right),
      s,
      eq-eqb (bit_map (head_bits h)) (bit_map (head_bits h)) refl,
    )
  where
    denominator : (b : Bool) → cond b (is_power_of_two h.denominator) (eqb h.denominator 0) ≡ true → b ≡ false → h.denominator ≡ 0
    denominator true e f = absurd cc
    denominator false e f = eqb-true h.denominator 0 e

    symbol : (b : Bool) → leb h.symbol (cond b 2 0) ≡ true → b ≡ false → h.symbol ≡ 0
    symbol true e f = absurd cc
    symbol false e f = omega (arith, leb-true h.symbol 0 e)

-- whatever the count, since its four bytes are a number's
pub head_read : (count : ℕ) (h : Head) (r : List ℕ) → such_head h ≡ true → (c : ℕ) × (head_taken (head_bytes count h ++ r) ≡ some ((c, h), r))
head_read count h r s =
    let n = low_bytes 4 count in
    let same : head_bytes count h ≡ head_bytes n.0 h = head_by count n.0 h n.2 in
    (n.0, ap (λ b. head_taken (b ++ r)) same ∙ head_whole n.0 h r n.1 s)

-- ---- bars

module _ (form : Form) where
  pub notes_sound : (count : ℕ) (bytes : List ℕ) (y : List Note × List ℕ) → notes_taken form count bytes ≡ some y
      → (length y.0 ≡ count) × (bytes ≡ each (note_bytes form) y.0 ++ y.1) × (every (such_note form) y.0 ≡ true)
  unfolding notes_taken every
  notes_sound count bytes y e = repeated_sound (λ _. note_taken form) (note_bytes form) (λ l. every (such_note form) l ≡ true) refl one count bytes y e
    where
      one : (l : List Note) (bs : List ℕ) (z : Note × List ℕ) → every (such_note form) l ≡ true → note_taken form bs ≡ some z → (bs ≡ note_bytes form z.0 ++ z.1) × (every (such_note form) (l ++ z.0 ∷ []) ≡ true)
      one l bs z h f = let a = note_sound form bs z f in (a.0, every_more (such_note form) l z.0 h a.1)

  -- such bars, with no more notes than a card takes
  pub record Counted (l : List Bar) : Type 0 where
    pub are : every (such_bar form) l ≡ true
    pub few : note_count l ≤ note_limit
    pub some_each : length l ≤ note_count l

  pub note-count-more : (l : List Bar) (b : Bar) → note_count (l ++ b ∷ []) ≡ note_count l + length b.notes
  unfolding note_count
  note-count-more [] b = omega arith
  note-count-more (x ∷ l) b = omega (arith, note-count-more l b)

  pub bar_sound : (l : List Bar) (bytes : List ℕ) (y : Bar × List ℕ) → Counted l → bar_taken form l bytes ≡ some y → (bytes ≡ bar_bytes form y.0 ++ y.1) × Counted (l ++ y.0 ∷ [])
  unfolding bar_behind bar_bytes such_bar holds
  bar_sound l bytes y h e =
      taken_then (head_taken bytes) _ e (λ opened r0 e0 k0.
      taken_then (if_holds (between 1 (note_limit - note_count l) opened.0) opened.0 r0) _ k0 (λ count r1 e1 k1.
      taken_then (notes_taken form count r1) _ k1 (λ notes r2 e2 k2.
      let b : Bar = record { head = opened.1; notes = notes } in
      let s : (b, r2) ≡ y = cc in
      let c = if_taken (between 1 (note_limit - note_count l) opened.0) opened.0 r0 {y = (count, r1)} e1 in
      let t = and_parts (leb 1 opened.0) (leb opened.0 (note_limit - note_count l)) c.0 in
      let low = leb-true 1 opened.0 t.0 in
      let high = leb-true opened.0 (note_limit - note_count l) t.1 in
      let d = head_sound bytes (opened, r0) e0 in
      let n = notes_sound count r1 (notes, r2) e2 in
      let size : length notes ≡ opened.0 = n.0 ∙ sym c.1 in
      let front : bytes ≡ bar_bytes form b ++ r2 = d.0 ∙ (λ i. head_bytes opened.0 opened.1 ++ c.2 i) ∙ rw (n.1, ← size, append_assoc) in
      let is : such_bar form b ≡ true = rw (d.1, n.2, lt-ltb 0 (length notes) (omega arith)) in
      let more = note-count-more l b in
      let counted : Counted (l ++ b ∷ []) = record { are = every_more (such_bar form) l b h.are is; few = omega (arith, h.few); some_each = omega (arith, h.some_each, length-append l (b ∷ [])) } in
      (front ∙ (λ i. bar_bytes form (s i).0 ++ (s i).1), subst (λ (z : Bar × List ℕ). Counted (l ++ z.0 ∷ [])) s counted))))

  pub none_counted : Counted []
  unfolding every note_count
  none_counted = record { are = refl; few = omega arith; some_each = omega arith }

  pub bars_sound : (count : ℕ) (bytes : List ℕ) (y : List Bar × List ℕ) → bars_taken form count bytes ≡ some y → (length y.0 ≡ count) × (bytes ≡ each (bar_bytes form) y.0 ++ y.1) × Counted y.0
  unfolding bars_taken
  bars_sound count bytes y e = repeated_sound (bar_taken form) (bar_bytes form) Counted none_counted bar_sound count bytes y e

  pub card_sound : (card : List ℕ) (l : List Bar) → card_taken form card ≡ some l → HasCard form card l
  unfolding card_taken front_taken such card_of holds
  card_sound card l e = go (front_taken form card) refl e
    where
      empty : (r : List ℕ) → eqb (length r) 0 ≡ true → r ≡ []
      empty [] f = refl
      empty (x ∷ r) f = absurd (let z = eqb-true (length (x ∷ r)) 0 f in omega arith)

      parts-of : (bars : List Bar) (r : List ℕ) → front_taken form card ≡ some (bars, r) → r ≡ [] → HasCard form card bars
      parts-of bars r f z =
          taken_then (byte_taken card) _ f (λ first r0 e0 k0.
          taken_then (if_holds (eqb first form.first) first r0) _ k0 (λ first' r1 e1 k1.
          taken_then (number_taken 4 r1) _ k1 (λ count r2 e2 k2.
          taken_then (if_holds (ltb 0 count) count r2) _ k2 (λ count' r3 e3 k3.
          let a = if_taken (eqb first form.first) first r0 {y = (first', r1)} e1 in
          let b = if_taken (ltb 0 count) count r2 {y = (count', r3)} e3 in
          let c = bars_sound count r3 (bars, r) k3 in
          let some : ltb 0 (length bars) ≡ true = rw c.0 b.0 in
          let w : card ≡ form.first ∷ number 4 (length bars) ++ each (bar_bytes form) bars =
          byte_sound card e0 ∙ (λ i. eqb-true first form.first a.0 i ∷ a.2 i) ∙ rw (number_sound 4 r1 e2, b.2, c.1, z, c.0, append-nil) in
          record { are = rw (some, c.2.are, le-leb (note_count bars) note_limit c.2.few); bytes = w }))))

      go : (x : Front (List Bar)) → front_taken form card ≡ x → whole x ≡ some l → HasCard form card l
      go none f g = absurd cc
      go (some x) f g = last (eqb (length x.1) 0) refl g
        where
          last : (b : Bool) → eqb (length x.1) 0 ≡ b → cond b (some x.0) none ≡ some l → HasCard form card l
          last true h k = let s : x.0 ≡ l = cc in subst (λ (z : List Bar). HasCard form card z) s (parts-of x.0 x.1 f (empty x.1 h))
          last false h k = absurd cc

  module _ (fits : form.greatest < 256 ^ form.width) where
    bars-each : (before l : List Bar) → every (such_bar form) l ≡ true → note_count before + note_count l ≤ note_limit → TakenEach (bar_taken form) (bar_bytes form) before l
    unfolding every note_count bar_behind bar_bytes such_bar notes_taken
    bars-each before [] h n = tt
    bars-each before (b ∷ l) h n =
        let t = and_parts (such_bar form b) (every (such_bar form) l) h in
        let s = all_hold (bar_tests form b) t.0 in
        let low = ltb-true 0 (length b.notes) s.1.0 in
        let c = length b.notes in
        let test : between 1 (note_limit - note_count before) c ≡ true = rw (le-leb 1 c (omega arith), le-leb c (note_limit - note_count before) (omega arith)) in (
          (λ r. rw (append_assoc, head_whole c b.head _ (omega arith) s.0, test, repeated_whole (λ _. note_taken form) (note_bytes form) b.notes r (taken_each (note_taken form) (note_bytes form) (such_note form) (λ x r' k. note_whole form fits x r' k) [] b.notes s.1.1.0))),
          bars-each (before ++ b ∷ []) l t.1 (omega (arith, note-count-more before b)),
        )

    bars-few : (l : List Bar) → every (such_bar form) l ≡ true → length l ≤ note_count l
    unfolding every note_count such_bar
    bars-few [] h = omega arith
    bars-few (b ∷ l) h = let t = and_parts (such_bar form b) (every (such_bar form) l) h in
        omega (arith, ltb-true 0 (length b.notes) (all_hold (bar_tests form b) t.0).1.0, bars-few l t.1)

    pub card_whole : (l : List Bar) → such form l ≡ true → card_taken form (card_of form l) ≡ some l
    unfolding card_taken front_taken card_of such bars_taken note_count
    card_whole l h =
        let t = all_hold (card_tests form l) h in
        let few = leb-true (note_count l) note_limit t.1.0 in
        let n : length l < 256 ^ 4 = omega (arith, few, bars-few l t.1.1.0) in
        let rest : each (bar_bytes form) l ≡ each (bar_bytes form) l ++ [] = rw append-nil in
        rw (eq-eqb form.first form.first refl, number_whole 4 (length l) _ n, t.0, rest, repeated_whole (bar_taken form) (bar_bytes form) l [] (bars-each [] l t.1.1.0 (omega (arith, few))))

    -- what is found, if anything is
    pub card_found : (card : List ℕ) → Found (HasCard form card) (card_taken form card)
    card_found card = go (card_taken form card) refl
      where
        go : (x : Option (List Bar)) → card_taken form card ≡ x → Found (HasCard form card) x
        go none e = λ l h. absurd (let w = ap (card_taken form) h.bytes ∙ card_whole l h.are in cc)
        go (some l) e = card_sound card l e

    -- no two such records have one card
    pub card-alone : (l m : List Bar) → such form l ≡ true → such form m ≡ true → card_of form l ≡ card_of form m → l ≡ m
    card-alone l m h k e = let s = sym (card_whole l h) ∙ ap (card_taken form) e ∙ card_whole m k in cc

    -- no two such notes have one run of bytes, and none begins another
    pub note-alone : (n m : Note) (r s : List ℕ) → such_note form n ≡ true → such_note form m ≡ true → note_bytes form n ++ r ≡ note_bytes form m ++ s → (n ≡ m) × (r ≡ s)
    note-alone n m r s h k e =
        let p = sym (note_whole form fits n r h) ∙ ap (note_taken form) e ∙ note_whole form fits m s k in
        let q : (n, r) ≡ (m, s) = cc in
        (ap (λ (x : Note × List ℕ). x.0) q, ap (λ (x : Note × List ℕ). x.1) q)

    bar-whole : (b : Bar) (r : List ℕ) → such_bar form b ≡ true → length b.notes ≤ note_limit → bar_taken form [] (bar_bytes form b ++ r) ≡ some (b, r)
    unfolding every note_count
    bar-whole b r h few = (bars-each [] (b ∷ []) (rw h refl) (omega (arith, few))).0 r

    -- nor two such bars, with no more notes than a card takes
    pub bar-alone : (b c : Bar) (r s : List ℕ) → such_bar form b ≡ true → length b.notes ≤ note_limit → such_bar form c ≡ true → length c.notes ≤ note_limit
        → bar_bytes form b ++ r ≡ bar_bytes form c ++ s → (b ≡ c) × (r ≡ s)
    bar-alone b c r s h few k less e =
        let p = sym (bar-whole b r h few) ∙ ap (bar_taken form []) e ∙ bar-whole c s k less in
        let q : (b, r) ≡ (c, s) = cc in
        (ap (λ (x : Bar × List ℕ). x.0) q, ap (λ (x : Bar × List ℕ). x.1) q)
