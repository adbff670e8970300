-- The reading of a text from its parts: entry, fields, tokens, end. Assumes nothing.
use Rattle.std.specs.Prelude as std
use Rattle.std.specs.Prelude.{not, ltb, eqb, Result, Ok, Err, MatchResult, IfOk, IsErr}
use Rattle.std.specs.Result.{IsErrAnd, is_err}
use Rattle.std.proofs.lemmas.Bool.{ltb-false}
use Rattle.std.proofs.Common.{◌≡◌, ℕ, ◌+◌, ◌*◌, ◌≤◌, Bool, true, false, cond, List, [], ◌∷◌, ◌++◌, length, ℤ, pos, refl, sym, ap, subst, ◌∙◌, arith}
use mathlib.Core.Bool.{false≢true}
use lib.ListN.{set, length-set, length-replicate, length-append, length-drop}
use lib.Seq.{length-take-le}
use Rattle.std.proofs.Math.Option as math
use Rattle.std.proofs.Math.Option.{Option, none, some}
use Rattle.rules.specs.Limits.{text_limit, note_limit, bar_size, diagnostic_limit, diagnostic_size}
use Rattle.rules.specs.Values.{Meter}
use Rattle.rules.specs.Text.{Part}
use Rattle.rules.specs.Characters.{is_formed, all_blank, characters_in}
use Rattle.rules.specs.Tokens.{items_of}
use Rattle.rules.specs.Records.{◌or◌, is_some, given, Diagnostic, notes_of}
use Rattle.rules.specs.Rules.{Attributes, state_after, bars_at_end}
use Rattle.rules.specs.Fields.{fields_of, fields_diagnosed, data_of}
use Rattle.rules.specs.Diagnostics.{data_diagnosed}
use Rattle.rules.specs.Refusals.{LentRecords, Refusal, refusal, first_failing, tokens_refusal, end_refusal, data_refusal, refusal_of}
use Rattle.rules.specs.Words.{zeros, padded, key_words, meter_words, note_cells, bar_cells, stored_diagnostics, diagnostic_cells}
use Rattle.rules.specs.Reading.{Lent, Reading, lent_records, accepted, refused, reading}
use Rattle.rules.specs.Agreement.{Agrees}
use Rattle.theorems.proofs.Agrees.{agrees-of}
use Rattle.stores.specs.declared.diagnostic.Diagnostic as stores
use Rattle.stores.specs.Diagnostics.{blanks, lent_of, diagnosed, count_after_all, list_after_all}
use Rattle.stores.specs.Cells.{written, with_record}
use Rattle.stores.specs.Bars.{BarNumbers, bar_numbers}
use Rattle.view.specs.declared.refusal.Stop.{Stop}
use Rattle.view.specs.Refusals.{refusal_number, stop_in, HasNoPlace}
use Rattle.view.specs.View.{View, has_note}
use Rattle.view.specs.Ready.{Sound, IsReady}
use Rattle.view.specs.Steps.{finished, stored_bar}
use Rattle.view.specs.declared.refusal.Refusal as view
use Rattle.view.specs.declared.refusal.Refusal.TheVariants.{NoBar}
use Rattle.view.specs.Run.{IsFresh, attributes_in, lent_in, run}
use Rattle.view.specs.End.{Ended, Ends, at_end, after_end}
use Rattle.view.proofs.RunLaws as walk
use Rattle.view.proofs.End.{ends}
use Rattle.reader.specs.declared.read.Counts.{Counts}
use Rattle.scan.specs.declared.lines.Part as scan
use Rattle.reader.specs.Fields.{data_in}
use Rattle.reader.specs.Answer.{words, lent_words, answer, entry_refusal, Counted, Reads, DataRead, ReadsData}
use Rattle.reader.proofs.DiagnosticLaws.{count-append, list-append, count-stored, list-words, words-blanks}

-- ---- the checks of the text

abbrev four : Bool → Bool → Bool → Bool → Option ℕ
four a b c d = first_failing ((1, a) ∷ (2, b) ∷ (3, c) ∷ (4, d) ∷ [])

abbrev five : Bool → Bool → Bool → Bool → Bool → Option ℕ
five a b c d e = first_failing ((1, a) ∷ (2, b) ∷ (3, c) ∷ (4, d) ∷ (5, e) ∷ [])

first_fails : (a b c d e : Bool) {n : ℕ} → four a b c d ≡ some n → five a b c d e ≡ some n
first_fails true b c d e h = h
first_fails false true c d e h = h
first_fails false false true d e h = h
first_fails false false false true e h = h
first_fails false false false false e h = let z : ◌≡◌ {A = Bool} false true = ap is_some h in absurd (false≢true z)

none_fails : (a b c d e : Bool) → four a b c d ≡ none → five a b c d e ≡ cond e (some 5) none
none_fails true b c d e h = let z : ◌≡◌ {A = Bool} true false = ap is_some h in absurd (false≢true (sym z))
none_fails false true c d e h = let z : ◌≡◌ {A = Bool} true false = ap is_some h in absurd (false≢true (sym z))
none_fails false false true d e h = let z : ◌≡◌ {A = Bool} true false = ap is_some h in absurd (false≢true (sym z))
none_fails false false false true e h = let z : ◌≡◌ {A = Bool} true false = ap is_some h in absurd (false≢true (sym z))
none_fails false false false false e h = refl

module _ (text : List ℕ) (lent : LentRecords) where
  abbrev a : Bool
  a = ltb text_limit (length text)

  abbrev b : Bool
  b = ltb lent.diagnostics diagnostic_limit

  abbrev c : Bool
  c = not (is_formed text)

  abbrev d : Bool
  d = all_blank text

  -- what is refused, by the first check of the text that fails
  abbrev by : Option ℕ → Option Refusal
  by o = given o none (λ n. some (refusal n 0)) or data_refusal lent (fields_of text).attributes (data_of text)

  pub entry_refused : {n : ℕ} → entry_refusal text lent.diagnostics ≡ some n → refusal_of text lent ≡ some (refusal n 0)
  unfolding refusal_of
  entry_refused e = ap by (first_fails a b c d (not (is_some (fields_of text).data_value)) e)

  module _ (e : entry_refusal text lent.diagnostics ≡ none) where
    pub no_data : (fields_of text).data_value ≡ none → refusal_of text lent ≡ some (refusal 5 0)
    unfolding refusal_of
    no_data f = ap by (none_fails a b c d (not (is_some (fields_of text).data_value)) e ∙ ap (λ o. cond (not (is_some o)) (some 5) none) f)

    pub by_data : {p : Part} → (fields_of text).data_value ≡ some p → refusal_of text lent ≡ data_refusal lent (fields_of text).attributes (data_of text)
    unfolding refusal_of
    by_data f = ap by (none_fails a b c d (not (is_some (fields_of text).data_value)) e ∙ ap (λ o. cond (not (is_some o)) (some 5) none) f)

-- the data that is read
data_is : (text : List ℕ) {p : Part} → (fields_of text).data_value ≡ some p → data_of text ≡ p
data_is text e = ap (λ (o : Option Part). math.get_or o (record { start = 0; bytes = [] })) e

-- ---- the data

length_numbers : (b : BarNumbers) → length (bar_numbers b) ≡ bar_size
length_numbers b = go b.fifths b.meter
  where
    go : (k : Option ℤ) (m : Option Meter) → length (pos b.first ∷ pos b.count ∷ pos (math.get_or b.clef 0) ∷ key_words k ++ meter_words m ++ pos b.left ∷ pos b.right ∷ []) ≡ bar_size
    go none none = refl
    go none (some m) = refl
    go (some k) none = refl
    go (some k) (some m) = refl

-- words that fit leave the cells as many
length_written : (l ws : List ℤ) (at : ℕ) → at + length ws ≤ length l → length (written l at ws) ≡ length l
length_written l ws at h = rw (length-append, length-append, length-take-le at l (omega arith), length-drop) (omega arith)

-- the end stores at most one bar, in the same cells
pub record Closed (v w : View) : Type 0 where
  pub notes : w.notes ≡ v.notes
  pub note_count : w.note_count ≡ v.note_count
  pub bars : length w.bars ≡ length v.bars
  pub bar_count : w.bar_count ≤ v.bar_count + 1

abbrev is_fine : {A E : Type 0} → Result A E → Bool
is_fine (Ok x) = true
is_fine (Err e) = false

abbrev value_or : {A E : Type 0} → A → Result A E → A
value_or y (Ok x) = x
value_or y (Err e) = y

pub closed : (right : ℕ) (v w : View) → stored_bar right v ≡ Ok w → Closed v w
closed right v w e = by_tests (has_note v) (ltb (length v.bars) (v.bar_count * bar_size + bar_size)) refl e
  where
    by_tests : (s t : Bool) → ltb (length v.bars) (v.bar_count * bar_size + bar_size) ≡ t → cond (not s) (Ok v) (cond t (Err NoBar) (Ok (record v { bars = with_record bar_size v.bars v.bar_count (bar_numbers (finished right v)); bar_count = v.bar_count + 1 }))) ≡ Ok w → Closed v w
    by_tests false t f q = subst (Closed v) (ap (value_or v) q) (record { notes = refl; note_count = refl; bars = refl; bar_count = omega arith })
    by_tests true true f q = let z : ◌≡◌ {A = Bool} false true = ap is_fine q in absurd (false≢true z)
    by_tests true false f q = subst (Closed v) (ap (value_or v) q) (record {
      notes = refl;
      note_count = refl;
      bars = length_written v.bars (bar_numbers (finished right v)) (v.bar_count * bar_size) (omega (arith, length_numbers (finished right v), ltb-false (length v.bars) (v.bar_count * bar_size + bar_size) f));
      bar_count = omega arith;
    })

-- so many notes and bars fit their counts
pub counts_fit : (v w : View) → Sound v → (right : ℕ) → stored_bar right v ≡ Ok w → (w.note_count ≤ note_limit) × (w.bar_count ≤ note_limit + 1)
counts_fit v w s right e = let m = closed right v w e in (omega (arith, m.note_count, s.capped), omega (arith, m.bar_count, s.few, s.first, s.capped))

at_end_closed : (size : ℕ) (v u : View) (r : Result View view.Refusal) → stored_bar 0 v ≡ r → at_end size r ≡ Ok u → Closed v u
at_end_closed size v u (Ok w) e q = by_test (eqb w.note_count 0) q
  where
    by_test : (t : Bool) → cond t (Err (refusal 13 0)) (Ok w) ≡ Ok u → Closed v u
    by_test true q = let z : ◌≡◌ {A = Bool} false true = ap is_fine q in absurd (false≢true z)
    by_test false q = subst (Closed v) (ap (value_or v) q) (closed 0 v w e)
at_end_closed size v u (Err x) e q = let z : ◌≡◌ {A = Bool} false true = ap is_fine q in absurd (false≢true z)

module _ {v : View} (f : IsFresh v) (d : Part) where
  -- what the steps ask stands behind all tokens
  pub ready_behind : {w : View} → run v (items_of d) ≡ Ok w → IsReady w
  ready_behind {w} e = walk.stands_ready (lent_in v) (attributes_in v) v (items_of d) w (subst (walk.Agrees (lent_in v) (attributes_in v) v (items_of d)) e (walk.data_agrees f d))

  pub run_refused : {r : Refusal} → run v (items_of d) ≡ Err r → data_refusal (lent_in v) (attributes_in v) d ≡ some r
  run_refused e =
      let t : tokens_refusal (lent_in v) (attributes_in v) (items_of d) ≡ some _ = subst (walk.Agrees (lent_in v) (attributes_in v) v (items_of d)) e (walk.data_agrees f d) in
      ap (λ o. o or end_refusal (lent_in v) (characters_in d.bytes) (state_after (attributes_in v) (items_of d))) t

  module _ {w : View} (e : run v (items_of d) ≡ Ok w) where
    stands : walk.Stands (lent_in v) (attributes_in v) v (items_of d) w
    stands = subst (walk.Agrees (lent_in v) (attributes_in v) v (items_of d)) e (walk.data_agrees f d)

    ended : Ends (lent_in v) (characters_in d.bytes) (state_after (attributes_in v) (items_of d)) w (after_end (characters_in d.bytes) w)
    ended = ends (lent_in v) (characters_in d.bytes) stands.holds

    pub end_refused : {r : Refusal} → after_end (characters_in d.bytes) w ≡ Err r → data_refusal (lent_in v) (attributes_in v) d ≡ some r
    end_refused g = (λ i. stands.fine i or end_refusal (lent_in v) (characters_in d.bytes) (state_after (attributes_in v) (items_of d)))
        ∙ subst (Ends (lent_in v) (characters_in d.bytes) (state_after (attributes_in v) (items_of d)) w) g ended

    data_read : {u : View} {counts : Counts} → after_end (characters_in d.bytes) w ≡ Ok u → Counted counts u → DataRead (lent_in v) (attributes_in v) d v.diagnostics v.diagnostic_count counts u.notes u.bars u.diagnostics
    data_read {u} g c =
        let t : Ended (lent_in v) (characters_in d.bytes) (state_after (attributes_in v) (items_of d)) w u = subst (Ends (lent_in v) (characters_in d.bytes) (state_after (attributes_in v) (items_of d)) w) g ended in
        let same : Closed w u = at_end_closed (characters_in d.bytes) w u (stored_bar 0 w) refl g in
        record {
          fine = (λ i. stands.fine i or t.fine i);
          notes = t.notes ∙ ap (λ n. padded n (note_cells (bars_at_end (state_after (attributes_in v) (items_of d))))) (sym (ap length same.notes));
          note_count = c.notes ∙ t.note_count;
          bars = t.bars ∙ ap (λ n. padded n (bar_cells (bars_at_end (state_after (attributes_in v) (items_of d))))) (sym same.bars);
          bar_count = c.bars ∙ t.bar_count;
          diagnostics = t.diagnostics ∙ stands.list;
          diagnostic_count = c.diagnostics ∙ t.diagnostic_count ∙ stands.count;
        }

    pub data_reads : (r : Result Counts Stop) (u u' : View) → MatchResult r (λ x. after_end (characters_in d.bytes) w ≡ Ok u) (λ stop. after_end (characters_in d.bytes) w ≡ Err (stop_in stop))
        → IfOk r (λ counts. Counted counts u') → u'.note_count ≡ u.note_count → u'.bar_count ≡ u.bar_count → u'.diagnostic_count ≡ u.diagnostic_count → ReadsData (lent_in v) (attributes_in v) d v.diagnostics v.diagnostic_count r u.notes u.bars u.diagnostics
    data_reads (Ok counts) u u' m c en eb ed = data_read m (record { notes = c.notes ∙ en; bars = c.bars ∙ eb; diagnostics = c.diagnostics ∙ ed })
    data_reads (Err stop) u u' m c en eb ed = end_refused m

-- ---- the text

length_diagnosed : (l : List stores.Diagnostic) (n : ℕ) (ds : List Diagnostic) → length (list_after_all l n ds) ≡ length l
length_diagnosed l n [] = refl
length_diagnosed l n (d ∷ ds) = one (list_after_all l n ds) (count_after_all n ds) ∙ length_diagnosed l n ds
  where
    one : (m : List stores.Diagnostic) (k : ℕ) → length (diagnosed m k (lent_of d)) ≡ length m
    one m k = by_tests (ltb k diagnostic_limit) (ltb k (length m))
      where
        by_tests : (s t : Bool) → length (cond s (cond t (set m k (lent_of d)) m) m) ≡ length m
        by_tests true true = length-set m k (lent_of d)
        by_tests true false = refl
        by_tests false t = refl

-- what is known before the data's first token, of a text that has data
pub record Fielded (text : List ℕ) (lent : Lent) (p : Part) (cells : LentRecords) (k : Attributes) (before : List stores.Diagnostic) (stored : ℕ) : Type 0 where
  pub entry : entry_refusal text lent.diagnostics ≡ none
  pub enough : diagnostic_limit ≤ lent.diagnostics
  pub data_value : (fields_of text).data_value ≡ some p
  pub attributes : k ≡ (fields_of text).attributes
  pub records : cells ≡ lent_records lent
  pub list : before ≡ list_after_all (blanks lent.diagnostics) 0 (fields_diagnosed text)
  pub count : stored ≡ count_after_all 0 (fields_diagnosed text)

-- as many cells stand in the list as were lent
pub same_records : (lent : Lent) (before : List stores.Diagnostic) (ds : List Diagnostic) → before ≡ list_after_all (blanks lent.diagnostics) 0 ds → lent_records (record lent { diagnostics = length before }) ≡ lent_records lent
same_records lent before ds e =
    let l : length before ≡ lent.diagnostics = ap length e ∙ length_diagnosed (blanks lent.diagnostics) 0 ds ∙ length-replicate lent.diagnostics _ in
    λ i. lent_records (record lent { diagnostics = l i })

module _ {text : List ℕ} {lent : Lent} {p : Part} {cells : LentRecords} {k : Attributes} {before : List stores.Diagnostic} {stored : ℕ} (f : Fielded text lent p cells k before stored) where
  -- what is refused, is refused of the text
  same_refusal : refusal_of text (lent_records lent) ≡ data_refusal cells k p
  same_refusal = by_data text (lent_records lent) f.entry f.data_value ∙ (λ i. data_refusal (sym f.records i) (sym f.attributes i) (data_is text f.data_value i))

  -- what the data diagnoses
  abbrev later : List Diagnostic
  later = data_diagnosed k (items_of p)

  text_read : {counts : Counts} {ns bs : List ℤ} {l : List stores.Diagnostic} → DataRead cells k p before stored counts ns bs l → Reads text lent (Ok counts) ns bs l
  text_read {counts} {ns} {bs} {l} t = (same_refusal ∙ t.fine, go k f.attributes p (data_is text f.data_value) t.notes t.note_count t.bars t.bar_count (t.diagnostics ∙ from_start) (t.diagnostic_count ∙ count_from_start))
    where
      from_start : list_after_all before stored later ≡ list_after_all (blanks lent.diagnostics) 0 (later ++ fields_diagnosed text)
      from_start = (λ i. list_after_all (f.list i) (f.count i) later) ∙ sym (list-append (blanks lent.diagnostics) 0 later (fields_diagnosed text))

      count_from_start : count_after_all stored later ≡ count_after_all 0 (later ++ fields_diagnosed text)
      count_from_start = ap (λ n. count_after_all n later) f.count ∙ sym (count-append 0 later (fields_diagnosed text))

      go : (k : Attributes) → k ≡ (fields_of text).attributes → (q : Part) → data_of text ≡ q
          → ns ≡ padded (length ns) (note_cells (bars_at_end (state_after k (items_of q))))
          → counts.notes ≡ length (notes_of (bars_at_end (state_after k (items_of q))))
          → bs ≡ padded (length bs) (bar_cells (bars_at_end (state_after k (items_of q))))
          → counts.bars ≡ length (bars_at_end (state_after k (items_of q)))
          → l ≡ list_after_all (blanks lent.diagnostics) 0 (data_diagnosed k (items_of q) ++ fields_diagnosed text)
          → counts.diagnostics ≡ count_after_all 0 (data_diagnosed k (items_of q) ++ fields_diagnosed text)
          → answer (Ok counts) ns bs (zeros lent.figure) l ≡ accepted text (record lent { notes = length ns; bars = length bs })
      go k e q g n nc bi bc li lc =
          let ds : ℕ → List Diagnostic = λ z. data_diagnosed (fields_of text).attributes (items_of (data_of text)) ++ fields_diagnosed text in
          let notes_is : ns ≡ padded (length ns) (note_cells (bars_at_end (state_after (fields_of text).attributes (items_of (data_of text))))) = n ∙ (λ i. padded (length ns) (note_cells (bars_at_end (state_after (e i) (items_of (sym g i)))))) in
          let bars_is : bs ≡ padded (length bs) (bar_cells (bars_at_end (state_after (fields_of text).attributes (items_of (data_of text))))) = bi ∙ (λ i. padded (length bs) (bar_cells (bars_at_end (state_after (e i) (items_of (sym g i)))))) in
          let note_count_is : counts.notes ≡ length (notes_of (bars_at_end (state_after (fields_of text).attributes (items_of (data_of text))))) = nc ∙ (λ i. length (notes_of (bars_at_end (state_after (e i) (items_of (sym g i)))))) in
          let bar_count_is : counts.bars ≡ length (bars_at_end (state_after (fields_of text).attributes (items_of (data_of text)))) = bc ∙ (λ i. length (bars_at_end (state_after (e i) (items_of (sym g i))))) in
          let list_is : words l ≡ padded (diagnostic_size * lent.diagnostics) (diagnostic_cells (ds 0)) =
          ap words (li ∙ (λ i. list_after_all (blanks lent.diagnostics) 0 (data_diagnosed (e i) (items_of (sym g i)) ++ fields_diagnosed text))) ∙ list-words lent.diagnostics f.enough (ds 0) in
          let count_is : counts.diagnostics ≡ length (stored_diagnostics (ds 0)) = lc ∙ (λ i. count_after_all 0 (data_diagnosed (e i) (items_of (sym g i)) ++ fields_diagnosed text)) ∙ count-stored (ds 0) in
          λ i. record {
            number = 0;
            place = 0;
            notes = note_count_is i;
            bars = bar_count_is i;
            diagnostics = count_is i;
            note_cells = notes_is i;
            bar_cells = bars_is i;
            figure_cells = zeros lent.figure;
            diagnostic_cells = list_is i;
          }

  pub text_reads : (r : Result Counts Stop) (ns bs : List ℤ) (l : List stores.Diagnostic) → ReadsData cells k p before stored r ns bs l → Reads text lent r ns bs l
  text_reads (Ok counts) ns bs l t = text_read t
  text_reads (Err stop) ns bs l t = same_refusal ∙ t

-- a refusal before the data
pub reads_early : (text : List ℕ) (lent : Lent) (e : view.Refusal) → refusal_of text (lent_records lent) ≡ some (refusal (refusal_number e) 0) → (r : Result Counts Stop) → IsErr r → IsErrAnd r (HasNoPlace e)
    → (notes bars : List ℤ) (diagnostics : List stores.Diagnostic) → Reads text lent r notes bars diagnostics
reads_early text lent e h (Ok counts) i p notes bars diagnostics = absurd p
reads_early text lent e h (Err stop) i p notes bars diagnostics = h ∙ ap (λ s. some (stop_in s)) (sym p)

pub no_data_in : (o : std.Option scan.Part) → ((x : scan.Part) → o ≡ std.Some x → ⊥) → data_in o ≡ none
no_data_in std.None h = refl
no_data_in (std.Some x) h = absurd (h x refl)

-- ---- the answer

module _ (text : List ℕ) (lent : Lent) where
  pub answer_read : (counts : Counts) (notes bars : List ℤ) (diagnostics : List stores.Diagnostic) → length notes ≡ lent.notes → length bars ≡ lent.bars → Reads text lent (Ok counts) notes bars diagnostics → answer (Ok counts) notes bars (zeros lent.figure) diagnostics ≡ reading text lent
  unfolding reading
  answer_read counts notes bars diagnostics en eb r = r.1 ∙ (λ i. accepted text (record lent { notes = en i; bars = eb i })) ∙ sym (ap (λ o. given o (accepted text lent) (refused lent)) r.0)

  pub answer_refused : (stop : Stop) (n m f k : ℕ) → n ≡ lent.notes → m ≡ lent.bars → f ≡ lent.figure → k ≡ lent.diagnostics → refusal_of text (lent_records lent) ≡ some (stop_in stop)
      → answer (Err stop) (zeros n) (zeros m) (zeros f) (blanks k) ≡ reading text lent
  unfolding reading
  answer_refused stop n m f k en em ef ek e =
      let ws : words (blanks k) ≡ zeros (diagnostic_size * lent.diagnostics) = words-blanks k ∙ ap (λ j. zeros (diagnostic_size * j)) ek in
      let same : answer (Err stop) (zeros n) (zeros m) (zeros f) (blanks k) ≡ refused lent (stop_in stop) = (λ i. record {
        number = (stop_in stop).number;
        place = (stop_in stop).place;
        notes = 0;
        bars = 0;
        diagnostics = 0;
        note_cells = zeros (en i);
        bar_cells = zeros (em i);
        figure_cells = zeros (ef i);
        diagnostic_cells = ws i;
      }) in same ∙ sym (ap (λ o. given o (accepted text lent) (refused lent)) e)

  pub read_agrees : (counts : Counts) (notes bars figure : List ℤ) (diagnostics : List stores.Diagnostic) → answer (Ok counts) notes bars figure diagnostics ≡ reading text lent → Agrees text counts.notes notes
  read_agrees counts notes bars figure diagnostics e = agrees-of text lent (sym (ap (λ (r : Reading). r.number) e)) (ap (λ (r : Reading). r.notes) e) (ap (λ (r : Reading). r.note_cells) e)

  -- of either result, what is not cleared
  pub answers : (r : Result Counts Stop) (notes bars figure : List ℤ) (diagnostics : List stores.Diagnostic) → is_err r ≡ false → length notes ≡ lent.notes → length bars ≡ lent.bars → figure ≡ zeros lent.figure → Reads text lent r notes bars diagnostics → answer r notes bars figure diagnostics ≡ reading text lent
  answers (Ok counts) notes bars figure diagnostics e en eb ef r = ap (λ f. answer (Ok counts) notes bars f diagnostics) ef ∙ answer_read counts notes bars diagnostics en eb r
  answers (Err stop) notes bars figure diagnostics e en eb ef r = absurd (false≢true (sym e))

  pub answers_cleared : (r : Result Counts Stop) (n b notes bars figure : List ℤ) (d diagnostics : List stores.Diagnostic) → is_err r ≡ true → n ≡ zeros lent.notes → b ≡ zeros lent.bars → figure ≡ zeros lent.figure → d ≡ blanks lent.diagnostics → Reads text lent r notes bars diagnostics → answer r n b figure d ≡ reading text lent
  answers_cleared (Ok counts) n b notes bars figure d diagnostics e en eb ef ed r = absurd (false≢true e)
  answers_cleared (Err stop) n b notes bars figure d diagnostics e en eb ef ed r = (λ i. answer (Err stop) (en i) (eb i) (ef i) (ed i)) ∙ answer_refused stop lent.notes lent.bars lent.figure lent.diagnostics refl refl refl refl r

  pub agrees_if : (r : Result Counts Stop) (notes bars figure : List ℤ) (diagnostics : List stores.Diagnostic) → answer r notes bars figure diagnostics ≡ reading text lent → IfOk r (λ counts. Agrees text counts.notes notes)
  agrees_if (Ok counts) notes bars figure diagnostics e = read_agrees counts notes bars figure diagnostics e
  agrees_if (Err stop) notes bars figure diagnostics e = tt

-- as much is lent as the cleared stores have
pub same_lent : (n n' b b' f : List ℤ) (d d' : List stores.Diagnostic) → n' ≡ zeros (length n) → b' ≡ zeros (length b) → d' ≡ blanks (length d) → lent_words n' b' f d' ≡ lent_words n b f d
same_lent n n' b b' f d d' en eb ed =
    let ln : length n' ≡ length n = ap length en ∙ length-replicate (length n) _ in
    let lb : length b' ≡ length b = ap length eb ∙ length-replicate (length b) _ in
    let ld : length d' ≡ length d = ap length ed ∙ length-replicate (length d) _ in
    λ i. record { notes = ln i; bars = lb i; figure = length f; diagnostics = ld i }
