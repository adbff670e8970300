-- A field sets and diagnoses what its key says; the lines one after the other. Assumes nothing.
use Rattle.std.specs.Prelude.{if◌then◌else◌, ◌++◌, Option, Some, None, is_some, MatchOption}
use Rattle.std.specs.List.{list_any, slice_split, onto_first}
use Rattle.std.proofs.lemmas.Iterator.{YieldsList}
use Rattle.std.proofs.lemmas.Iterator.Consumers.{YieldsList-from_shown}
use mathlib.Core.List.{append_assoc}
use Rattle.std.proofs.Common.{◌≡◌, ℕ, zero, suc, ◌+◌, ◌≤◌, Bool, true, false, ◌&&◌, ◌||◌, cond, List, [], ◌∷◌, length, length-drop, take, drop, eqb, refl, sym, ap, ◌∙◌, subst, arith}
use native.Mathlib.Numerals.{one-add}
use mathlib.Core.Bool.{false≢true}
use Rattle.std.proofs.lemmas.Bool.{and_parts}
use Rattle.std.proofs.lemmas.Bool.Decides.{nat_tests}
use Rattle.std.proofs.Math.Option as math
use Rattle.rules.specs.Text.{bytes, begins, is_text}
use Rattle.rules.specs.Values.{clef_of, key_of, meter_of}
use Rattle.rules.specs.Records
use Rattle.rules.specs.Records.{◌or◌, given, is_empty, at_line, at_field, Diagnostic}
use Rattle.rules.specs.Diagnostics.{diagnostic, clef_diagnosed, key_diagnosed, meter_diagnosed}
use Rattle.rules.specs.Fields.{Line, Field, Fields, field_of, is_field, has_field, in_field_form, field_next, field_diagnosed, line_diagnosed, part_value, no_fields, lines_after, lines_of, line_at, line_size, fields_after, lines_diagnosed}
use Rattle.scan.specs.declared.lines.Lines.{Lines}
use Rattle.scan.specs.declared.lines.TextLine.{TextLine}
use Rattle.scan.specs.declared.lines.Field as scan_field
use Rattle.scan.specs.Lines.{lines_left, line_of, field_in, IsFirstLine, GivesLine, ReadsField}
use Rattle.scan.specs.FieldLine.{is_field_line}
use Rattle.scan.proofs.LineLaws.{line_cut}
use Rattle.stores.specs.declared.diagnostic.Diagnostics.{Diagnostics}
use Rattle.stores.specs.Diagnostics.{list_after_all, count_after_all}
use Rattle.scan.specs.Keys.{field_key_of}
use Rattle.scan.specs.declared.lines.FieldKey.{FieldKey}
use Rattle.scan.specs.declared.lines.FieldKey.TheVariants.{Clef, Keysig, Timesig, Data, Other}
use Rattle.reader.proofs.DiagnosticLaws.{list-append, count-append}
use Rattle.reader.specs.Fields.{field_set, field_remarks, line_next}

-- ---- the tests of a key, all four by the key

same_byte : (a b : ℕ) → eqb a b ≡ true → a ≡ b
same_byte a b e = grind (arith, nat_tests)

text_is : (ks xs : List ℕ) → is_text ks xs ≡ true → xs ≡ ks
text_is [] [] t = refl
text_is [] (x ∷ xs) t = let e = and_parts (eqb (suc (length xs)) 0) true t in absurd (omega (arith, same_byte (suc (length xs)) 0 e.0))
text_is (k ∷ ks) [] t = absurd (false≢true (and_parts (eqb 0 (suc (length ks))) false t).1)
text_is (k ∷ ks) (x ∷ xs) t =
    let e = and_parts (eqb (suc (length xs)) (suc (length ks))) (eqb x k && begins ks xs) t in
    let h = and_parts (eqb x k) (begins ks xs) e.1 in
    let n : eqb (length xs) (length ks) ≡ true = grind (arith, nat_tests, e.0) in
    λ i. same_byte x k h.0 i ∷ text_is ks xs (rw n h.1) i

abbrev is_clef : FieldKey → Bool
is_clef Clef = true
is_clef Keysig = false
is_clef Timesig = false
is_clef Data = false
is_clef Other = false

abbrev is_keysig : FieldKey → Bool
is_keysig Clef = false
is_keysig Keysig = true
is_keysig Timesig = false
is_keysig Data = false
is_keysig Other = false

abbrev is_timesig : FieldKey → Bool
is_timesig Clef = false
is_timesig Keysig = false
is_timesig Timesig = true
is_timesig Data = false
is_timesig Other = false

abbrev is_data : FieldKey → Bool
is_data Clef = false
is_data Keysig = false
is_data Timesig = false
is_data Data = true
is_data Other = false

record Told (name : List ℕ) : Type 0 where
  clef : is_text (bytes "clef") name ≡ is_clef (field_key_of name)
  keysig : is_text (bytes "keysig") name ≡ is_keysig (field_key_of name)
  timesig : is_text (bytes "timesig") name ≡ is_timesig (field_key_of name)
  data-value : is_text (bytes "data") name ≡ is_data (field_key_of name)

-- where one test holds, the name is that text, and the others fail
key_told : (name : List ℕ) → Told name
key_told name = by (is_text (bytes "clef") name) (is_text (bytes "keysig") name) (is_text (bytes "timesig") name) (is_text (bytes "data") name) refl refl refl refl
  where
    is : (text : List ℕ) → is_text text name ≡ true → Told text → Told name
    is text t w = subst Told (sym (text_is text name t)) w

    by : (c k t d : Bool) → is_text (bytes "clef") name ≡ c → is_text (bytes "keysig") name ≡ k → is_text (bytes "timesig") name ≡ t → is_text (bytes "data") name ≡ d → Told name
    by true k t d p q r s = is (bytes "clef") p (record { clef = refl; keysig = refl; timesig = refl; data-value = refl })
    by false true t d p q r s = is (bytes "keysig") q (record { clef = refl; keysig = refl; timesig = refl; data-value = refl })
    by false false true d p q r s = is (bytes "timesig") r (record { clef = refl; keysig = refl; timesig = refl; data-value = refl })
    by false false false true p q r s = is (bytes "data") s (record { clef = refl; keysig = refl; timesig = refl; data-value = refl })
    by false false false false p q r s = record { clef = rw (p, q, r, s); keysig = rw (p, q, r, s); timesig = rw (p, q, r, s); data-value = rw (p, q, r, s) }

-- ---- a field

set_told : (f : Field) (s : Fields) → field_next f s ≡ field_set (field_key_of f.key) f.value s
set_told f s = let t = key_told f.key in (λ i. by (t.clef i) (t.keysig i) (t.timesig i) (t.data-value i)) ∙ each (field_key_of f.key)
  where
    by : Bool → Bool → Bool → Bool → Fields
    by c k t d = record {
      attributes = record {
        clef = cond c (clef_of f.value.bytes).clef math.none or s.attributes.clef;
        fifths = cond k (math.some (key_of f.value.bytes).fifths) s.attributes.fifths;
        key_alters = cond k (key_of f.value.bytes).alters s.attributes.key_alters;
        meter = cond t (meter_of f.value.bytes) math.none or s.attributes.meter;
      };
      data_value = cond d (math.some f.value) s.data_value;
    }

    each : (key : FieldKey) → by (is_clef key) (is_keysig key) (is_timesig key) (is_data key) ≡ field_set key f.value s
    each Clef = refl
    each Keysig = refl
    each Timesig = refl
    each Data = refl
    each Other = refl

remarks_told : (n : ℕ) (f : Field) → field_diagnosed n f ≡ field_remarks (field_key_of f.key) n f.value
remarks_told n f = let t = key_told f.key in (λ i. by (t.clef i) (t.keysig i) (t.timesig i) (t.data-value i)) ∙ each (field_key_of f.key)
  where
    by : Bool → Bool → Bool → Bool → List Diagnostic
    by c k t d =
        cond c (clef_diagnosed (at_line n) (part_value f.value) (clef_of f.value.bytes))
        (cond k (key_diagnosed (at_line n) (part_value f.value) (key_of f.value.bytes))
        (cond t (meter_diagnosed (at_line n) (part_value f.value) (meter_of f.value.bytes))
        (cond d [] (diagnostic 2 (at_field n) (part_value f.value) ∷ []))))

    each : (key : FieldKey) → by (is_clef key) (is_keysig key) (is_timesig key) (is_data key) ≡ field_remarks key n f.value
    each Clef = refl
    each Keysig = refl
    each Timesig = refl
    each Data = refl
    each Other = refl

module _ (l : Line) (f : Field) where
  pub field_sets : (s : Fields) → field_of l ≡ math.some f → line_next l s ≡ field_set (field_key_of f.key) f.value s
  field_sets s e = ap (λ o. given o s (λ g. field_next g s)) e ∙ set_told f s

  pub field_remarked : field_of l ≡ math.some f → line_diagnosed l ≡ field_remarks (field_key_of f.key) l.number f.value
  field_remarked e = ap (λ o. given o (if is_empty l.content.bytes then [] else diagnostic 1 (at_line l.number) (part_value l.content) ∷ []) (field_diagnosed l.number)) e ∙ remarks_told l.number f

pub ruleset field_laws = (field_sets, field_remarked)

-- ---- lines

-- what the lines that are read set and diagnose
pub record Taken (text : List ℕ) (lines : Lines) (fields : Fields) (old : Diagnostics) (new : Diagnostics) : Type 0 where
  pub before : List Line
  pub left : lines_left lines before ≡ lines_of text
  pub set : fields ≡ fields_after before
  pub same : new.list.ghost_name ≡ old.list.ghost_name
  pub list : new.list.now ≡ list_after_all old.list.now old.count (lines_diagnosed before)
  pub count : new.count ≡ count_after_all old.count (lines_diagnosed before)

-- ---- the lines as `Lines` gives them one by one, for those who go through it by an iterator's methods

-- those of `before` stand behind
lines_apart : (skip n o : ℕ) (xs : List ℕ) (before : List Line) → lines_after skip n o xs before ≡ lines_after skip n o xs [] ++ before
unfolding lines_after
lines_apart skip n o [] before = refl
lines_apart zero n o (x ∷ xs) before =
    let l = line_at n o (x ∷ xs) in
    let k = line_size (x ∷ xs) in
    lines_apart k (n + 1) (o + 1) xs (l ∷ before)
    ∙ sym (ap (λ m. m ++ before) (lines_apart k (n + 1) (o + 1) xs (l ∷ [])) ∙ append_assoc (lines_after k (n + 1) (o + 1) xs []) (l ∷ []) before)
lines_apart (suc skip) n o (x ∷ xs) before = lines_apart skip n (o + 1) xs before

-- the lines in the other order
abbrev pub turned : List Line → List Line
turned [] = []
turned (l ∷ ls) = turned ls ++ l ∷ []

turned_last : (ls : List Line) (l : Line) → turned (ls ++ l ∷ []) ≡ l ∷ turned ls
turned_last [] l = refl
turned_last (x ∷ ls) l = ap (λ m. m ++ x ∷ []) (turned_last ls l)

-- the lines that are left, from the first on
abbrev first_on : Lines → List Line
first_on s = turned (lines_left s [])

first_none : (s t : Lines) → GivesLine s None t → length (first_on s) ≡ 0
first_none s t g = ap (λ l. length (turned l)) (g [])

first_next : (s : Lines) (line : TextLine) (t : Lines) → GivesLine s (Some line) t → first_on s ≡ line_of line ∷ first_on t
first_next s line t g = ap turned (g.left [] ∙ lines_apart 0 t.number.0 t.rest.start.0 t.rest.bytes.now (line_of line ∷ [])) ∙ turned_last (lines_left t []) (line_of line)

-- `Lines` as a list
pub lines_yielded : (s : Lines) → YieldsList GivesLine line_of s (first_on s)
lines_yielded s = YieldsList-from_shown GivesLine line_of first_on first_none first_next s

-- whether a line is a field
abbrev pub test : Line → Bool
test l = is_field l.content.bytes

-- whether `field` gives one
pub field_told : (l : Line) (r : Option scan_field.Field) → ReadsField l r → is_some r ≡ test l
field_told l r e = by r (is_field l.content.bytes) _ e
  where
    by : (r : Option scan_field.Field) (b : Bool) (f : Field) → MatchOption r ((if b then math.some f else math.none) ≡ math.none) (λ g. (if b then math.some f else math.none) ≡ math.some (field_in g)) → is_some r ≡ b
    by None true f q = let h : ◌≡◌ {A = Bool} true false = ap Records.is_some q in absurd (false≢true (sym h))
    by None false f q = refl
    by (Some g) true f q = refl
    by (Some g) false f q = let h : ◌≡◌ {A = Bool} false true = ap Records.is_some q in absurd (false≢true h)

any_behind : (ls : List Line) (l : Line) → list_any test (ls ++ l ∷ []) ≡ (test l || list_any test ls)
any_behind [] l = refl
any_behind (x ∷ ls) l = ap (λ b. test x || b) (any_behind ls l) ∙ swapped (test x) (test l) (list_any test ls)
  where
    swapped : (a b c : Bool) → (a || (b || c)) ≡ (b || (a || c))
    swapped true true c = refl
    swapped true false c = refl
    swapped false b c = refl

-- whether any line is a field, in this order or the other
pub any_turned : (ls : List Line) → list_any test (turned ls) ≡ has_field ls
any_turned [] = refl
any_turned (l ∷ ls) = any_behind (turned ls) l ∙ ap (λ b. test l || b) (any_turned ls)

-- ---- the lines, cut at byte 10

abbrev ends_line : ℕ → Bool
ends_line b = eqb b 10

-- the first part of what is cut is the first line
first_part : (xs : List ℕ) → slice_split ends_line xs ≡ take (line_size xs) xs ∷ drop 1 (slice_split ends_line xs)
first_part [] = refl
first_part (x ∷ xs) = by (ends_line x) refl (first_part xs)
  where
    by : (b : Bool) → ends_line x ≡ b → slice_split ends_line xs ≡ take (line_size xs) xs ∷ drop 1 (slice_split ends_line xs)
        → slice_split ends_line (x ∷ xs) ≡ take (line_size (x ∷ xs)) (x ∷ xs) ∷ drop 1 (slice_split ends_line (x ∷ xs))
    by true e h = rw e
    by false e h = rw (e, one-add) (ap (onto_first x) h ∙ ap (λ ls. (x ∷ take (line_size xs) xs) ∷ ls) (sym (ap (λ ls. drop 1 (onto_first x ls)) h)))

-- the others are what stands behind its end, cut
other_parts : (xs : List ℕ) → list_any is_field_line (drop 1 (slice_split ends_line xs)) ≡ list_any is_field_line (slice_split ends_line (drop (line_size xs + 1) xs))
other_parts [] = refl
other_parts (x ∷ xs) = by (ends_line x) refl (other_parts xs)
  where
    by : (b : Bool) → ends_line x ≡ b → list_any is_field_line (drop 1 (slice_split ends_line xs)) ≡ list_any is_field_line (slice_split ends_line (drop (line_size xs + 1) xs))
        → list_any is_field_line (drop 1 (slice_split ends_line (x ∷ xs))) ≡ list_any is_field_line (slice_split ends_line (drop (line_size (x ∷ xs) + 1) (x ∷ xs)))
    by true e h = rw e
    by false e h = let behind : suc (line_size xs) + 1 ≡ suc (line_size xs + 1) = omega arith in rw (e, one-add, behind) (ap (λ ls. list_any is_field_line (drop 1 (onto_first x ls))) (first_part xs) ∙ h)

any_first : (xs : List ℕ) → list_any is_field_line (slice_split ends_line xs) ≡ (is_field_line (take (line_size xs) xs) || list_any is_field_line (slice_split ends_line (drop (line_size xs + 1) xs)))
any_first xs = ap (list_any is_field_line) (first_part xs) ∙ ap (λ b. is_field_line (take (line_size xs) xs) || b) (other_parts xs)

swapped : (a b c : Bool) → (a || (b || c)) ≡ ((b || a) || c)
swapped true true c = refl
swapped true false c = refl
swapped false true c = refl
swapped false false c = refl

-- at most k bytes; wherever the text stands, behind the lines of `before`
any_field : (k n o : ℕ) (xs : List ℕ) (before : List Line) → length xs ≤ k → has_field (lines_after 0 n o xs before) ≡ (list_any is_field_line (slice_split ends_line xs) || has_field before)
unfolding lines_after
any_field k n o [] before h = refl
any_field zero n o (x ∷ xs) before h = absurd (omega (arith, h))
any_field (suc k) n o (x ∷ xs) before h =
    let l = line_at n o (x ∷ xs) in
    let size = line_size (x ∷ xs) in
    let left = drop (size + 1) (x ∷ xs) in
    let less : length left ≤ k = omega (arith, h, length-drop (size + 1) (x ∷ xs)) in
    let first = is_field_line (take size (x ∷ xs)) in
    ap has_field (line_cut n o (x ∷ xs) before (omega arith))
    ∙ any_field k (n + 1) (o + (size + 1)) left (l ∷ before) less
    ∙ swapped (list_any is_field_line (slice_split ends_line left)) first (has_field before)
    ∙ sym (ap (λ b. b || has_field before) (any_first (x ∷ xs)))

or_false : (b : Bool) → (b || false) ≡ b
or_false true = refl
or_false false = refl

-- a line of a text is a field, if a part of it is one
pub field_form : (text : List ℕ) → list_any is_field_line (slice_split (λ b. eqb b 10) text) ≡ in_field_form text
field_form text = sym (any_field (length text) 1 0 text [] (omega arith) ∙ or_false (list_any is_field_line (slice_split ends_line text)))

module _ {text : List ℕ} {lines : Lines} where
  pub none_taken : {s : Fields} {d : Diagnostics} → s ≡ no_fields → lines_left lines [] ≡ lines_of text → Taken text lines s d d
  unfolding fields_after lines_diagnosed
  none_taken e g = record { before = []; left = g; set = e; same = refl; list = refl; count = refl }

  module _ {s : Fields} {old now : Diagnostics} (w : Taken text lines s old now) where
    pub more_taken : {t : Fields} {new : Diagnostics} {line : TextLine} {next : Lines} → IsFirstLine lines line next → t ≡ line_next (line_of line) s
        → new.list.ghost_name ≡ now.list.ghost_name
        → new.list.now ≡ list_after_all now.list.now now.count (line_diagnosed (line_of line))
        → new.count ≡ count_after_all now.count (line_diagnosed (line_of line))
        → Taken text next t old new
    unfolding fields_after lines_diagnosed
    more_taken {line = line} first set same list count = record {
      before = line_of line ∷ w.before;
      left = sym (first.left w.before) ∙ w.left;
      set = set ∙ ap (line_next (line_of line)) w.set;
      same = same ∙ w.same;
      list = list ∙ (λ i. list_after_all (w.list i) (w.count i) (line_diagnosed (line_of line))) ∙ sym (list-append old.list.now old.count (line_diagnosed (line_of line)) (lines_diagnosed w.before));
      count = count ∙ ap (λ n. count_after_all n (line_diagnosed (line_of line))) w.count ∙ sym (count-append old.count (line_diagnosed (line_of line)) (lines_diagnosed w.before));
    }

    module _ (none : (before : List Line) → lines_left lines before ≡ before) where
      all_read : w.before ≡ lines_of text
      all_read = sym (none w.before) ∙ w.left

      pub all_set : s ≡ fields_after (lines_of text)
      all_set = w.set ∙ ap fields_after all_read

      pub all_listed : now.list.now ≡ list_after_all old.list.now old.count (lines_diagnosed (lines_of text))
      all_listed = w.list ∙ ap (λ ls. list_after_all old.list.now old.count (lines_diagnosed ls)) all_read

      pub all_counted : now.count ≡ count_after_all old.count (lines_diagnosed (lines_of text))
      all_counted = w.count ∙ ap (λ ls. count_after_all old.count (lines_diagnosed ls)) all_read

pub ruleset line_laws = (none_taken, more_taken, all_set, all_listed, all_counted)
