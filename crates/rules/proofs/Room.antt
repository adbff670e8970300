-- More room changes no answer but a refusal for want of room. Assumes nothing.
use Prim.Native.Nat.{ℕ, zero, suc, ◌+◌, ◌*◌, ◌≤◌}
use native.Mathlib.Omega.{arith}
use mir.Facts.{leb_yes, yes_leb}
use mathlib.Core.Path.{◌≡◌, refl, ap}
use mathlib.Core.Bool.{Bool, true, false, not, cond, ◌&&◌}
use mathlib.Core.Logic.{◌⊎◌, inl, inr}
use mathlib.Core.Option.{Option, none, some}
use mathlib.Core.List.{List, [], ◌∷◌}
use lib.ListN.{length}
use lib.Dec.{T, T_not, leb, ltb}
use Rattle.rules.specs.Limits.{note_size, bar_size, diagnostic_limit}
use Rattle.rules.specs.Text.{among}
use Rattle.rules.specs.Characters.{characters_in}
use Rattle.rules.specs.Tokens.{Figure, figure_mark, figure_repeat, bar_repeat, figure_in, is_barline, Token, Item}
use Rattle.rules.specs.Records.{◌or◌, given, is_empty}
use Rattle.rules.specs.Rules.{State, Attributes, count_from, step, further_bars, inner_barline, in_turn, state_after, stores, stored}
use Rattle.rules.specs.Fields.{data_of}
use Rattle.rules.specs.Refusals.{LentRecords, Refusal, refusal, Check, first_failing, text_checks, text_refusal, over_figure, over_bars, token_checks, token_refusal, refusal_at, refusal_in_turn, tokens_refusal, end_refusal, refusal_of}
use Rattle.rules.specs.Reading.{Lent, lent_records, attributes_of, tokens_of, accepted, refused, reading}

-- ---- refusals for want of room

-- their numbers: 2, 8, 11, 12
abbrev is_room : ℕ → Bool
is_room n = among (2 ∷ 8 ∷ 11 ∷ 12 ∷ []) n

-- there is a refusal, and it is one of them
abbrev wants_room : {A : Type 0} → (A → ℕ) → Option A → Bool
wants_room number none = false
wants_room number (some a) = is_room (number a)

-- a test that holds with more room only if it holds with less
record Eases (less more : Bool) : Type 0 where
  holds : T more → T less

module _ {A : Type 0} (number : A → ℕ) where
  -- the answer with more room is that with less, unless that one wants room
  record Kept (less more : Option A) : Type 0 where
    kept : T (not (wants_room number less)) → more ≡ less

  -- behind a test that asks for no room
  kept-behind : (a : A) (b : Bool) {less more : Option A} → Kept less more → Kept (cond b (some a) less) (cond b (some a) more)
  kept-behind a true k = record { kept = λ h. refl }
  kept-behind a false k = k

  -- behind a test for room
  kept-eased : (a a' : A) → T (is_room (number a)) → (b c : Bool) → Eases b c → {less more : Option A} → Kept less more → Kept (cond b (some a) less) (cond c (some a') more)
  kept-eased a a' r true c e k = record { kept = λ h. absurd (T_not (is_room (number a)) h r) }
  kept-eased a a' r false true e k = absurd (e.holds tt)
  kept-eased a a' r false false e k = k

  -- one answer, else another
  kept-or : {a b c d : Option A} → Kept a b → Kept c d → Kept (a or c) (b or d)
  kept-or {a = none} k l = record { kept = λ h i. k.kept tt i or l.kept h i }
  kept-or {a = some a} {d = d} k l = record { kept = λ h. ap (λ o. o or d) (k.kept h) }

-- checks with less room and with more: each the same, or one for room
abbrev AllEased : List Check → List Check → Type 0
AllEased [] [] = Unit {0}
AllEased [] (d ∷ ds) = ⊥
AllEased (c ∷ cs) [] = ⊥
AllEased (c ∷ cs) (d ∷ ds) = ((c ≡ d) ⊎ (T (is_room c.0) × Eases c.1 d.1)) × AllEased cs ds

failing-kept : (cs ds : List Check) → AllEased cs ds → Kept (λ n. n) (first_failing cs) (first_failing ds)
failing-kept [] [] e = record { kept = λ h. refl }
failing-kept [] (d ∷ ds) e = absurd e
failing-kept (c ∷ cs) [] e = absurd e
failing-kept (c ∷ cs) (d ∷ ds) (inl e, es) = rw e (kept-behind (λ n. n) d.0 d.1 (failing-kept cs ds es))
failing-kept (c ∷ cs) (d ∷ ds) (inr e, es) = kept-eased (λ n. n) c.0 d.0 e.0 c.1 d.1 e.1 (failing-kept cs ds es)

-- a number with its place
at_place : (place : ℕ) {less more : Option ℕ} → Kept (λ n. n) less more → Kept (λ r. r.number) (given less none (λ n. some (refusal n place))) (given more none (λ n. some (refusal n place)))
at_place place {less = none} k = record { kept = λ h. ap (λ o. given o none (λ n. some (refusal n place))) (k.kept h) }
at_place place {less = some n} k = record { kept = λ h. ap (λ o. given o none (λ n. some (refusal n place))) (k.kept h) }

-- ---- tests for room

eases-and : (a : Bool) {b c : Bool} → Eases b c → Eases (a && b) (a && c)
eases-and true e = e
eases-and false e = record { holds = λ h. h }

eases-given : {A : Type 0} (o : Option A) {f g : A → Bool} → ((a : A) → Eases (f a) (g a)) → Eases (given o false f) (given o false g)
eases-given none e = record { holds = λ h. h }
eases-given (some a) e = e a

eases-leb : {m n : ℕ} (k : ℕ) → m ≤ n → Eases (leb m k) (leb n k)
eases-leb {m} {n} k le = record { holds = λ h. yes_leb {a = m} {b = k} (omega (arith, le, leb_yes {a = n} {b = k} h)) }

eases-ltb : {m n : ℕ} (k : ℕ) → m ≤ n → Eases (ltb m k) (ltb n k)
eases-ltb {m} {n} k le = eases-leb {m = suc m} {n = suc n} k (omega (arith, le))

-- ---- less room and more

record Within (less more : LentRecords) : Type 0 where
  notes : less.notes ≤ more.notes
  bars : less.bars ≤ more.bars
  figure : less.figure ≤ more.figure
  diagnostics : less.diagnostics ≤ more.diagnostics

module _ (less more : LentRecords) (w : Within less more) where
  bars-eased : (s : State) → Eases (over_bars less s) (over_bars more s)
  bars-eased s = eases-and (not (is_empty s.open_bar)) (eases-leb (length s.bars) w.bars)

  figure-eased : (s : State) (f : Figure) → Eases (over_figure less.figure f s) (over_figure more.figure f s)
  figure-eased s figure_mark = eases-given s.figure_start (λ start. eases-ltb (count_from start s) w.figure)
  figure-eased s figure_repeat = record { holds = λ h. h }
  figure-eased s bar_repeat = record { holds = λ h. h }

  text-kept : (text : List ℕ) → Kept (λ r. r.number) (text_refusal text less) (text_refusal text more)
  text-kept text = at_place 0 (failing-kept (text_checks text less) (text_checks text more) (inl refl, (inr (tt, eases-ltb diagnostic_limit w.diagnostics), (inl refl, (inl refl, (inl refl, tt))))))

  token-kept : (t : Token) (s : State) → Kept (λ n. n) (token_refusal less t s) (token_refusal more t s)
  token-kept t s =
      let added = length (stores 0 t s) in
      let notes = eases-and (ltb 0 added) (eases-ltb (length (stored s) + added) w.notes) in
      let figure = eases-given (figure_in t) (figure-eased s) in
      let bars = eases-and (is_barline t) (bars-eased s) in
      failing-kept (token_checks less t s) (token_checks more t s) (inl refl, (inr (tt, notes), (inl refl, (inl refl, (inr (tt, figure), (inr (tt, bars), tt))))))

  at-kept : (x : Item) (s : State) → Kept (λ r. r.number) (refusal_at less x s) (refusal_at more x s)
  at-kept x s = at_place x.place (token-kept x.token s)

  turn-kept : (x : Item) (further : ℕ) (s : State) → Kept (λ r. r.number) (refusal_in_turn less x further s) (refusal_in_turn more x further s)
  turn-kept x zero s = at-kept x s
  turn-kept x (suc further) s =
      let t = in_turn x further s in
      kept-or (λ r. r.number) (turn-kept x further s) (kept-or (λ r. r.number) (at-kept (inner_barline x) t) (at-kept x (step (inner_barline x) t)))

  tokens-kept : (k : Attributes) (all : List Item) → Kept (λ r. r.number) (tokens_refusal less k all) (tokens_refusal more k all)
  unfolding tokens_refusal
  tokens-kept k [] = record { kept = λ h. refl }
  tokens-kept k (x ∷ before) = kept-or (λ r. r.number) (tokens-kept k before) (turn-kept x (further_bars x.token) (state_after k before))

  end_kept : (size : ℕ) (s : State) → Kept (λ r. r.number) (end_refusal less size s) (end_refusal more size s)
  end_kept size s = kept-eased (λ r. r.number) (refusal 12 (size + 1)) (refusal 12 (size + 1)) tt (over_bars less s) (over_bars more s) (bars-eased s) (record { kept = λ h. refl })

  refusal-kept : (text : List ℕ) → Kept (λ r. r.number) (refusal_of text less) (refusal_of text more)
  unfolding refusal_of
  refusal-kept text = let k = attributes_of text in let all = tokens_of text in
      kept-or (λ r. r.number) (text-kept text) (kept-or (λ r. r.number) (tokens-kept k all) (end_kept (characters_in (data_of text).bytes) (state_after k all)))

-- ---- just so many records lent

abbrev pub refusal_with : List ℕ → ℕ → ℕ → ℕ → Option Refusal
refusal_with text notes bars figure = refusal_of text (record { notes = notes; bars = bars; figure = figure; diagnostics = diagnostic_limit })

-- they suffice: a refusal, if there is one, is not for want of room
abbrev pub Settled : List ℕ → ℕ → ℕ → ℕ → Type 0
Settled text notes bars figure = T (not (wants_room (λ r. r.number) (refusal_with text notes bars figure)))

-- then all that is lent beyond them changes nothing
pub read_as : (text : List ℕ) (notes bars figure : ℕ) (lent : Lent) → notes * note_size ≤ lent.notes → bars * bar_size ≤ lent.bars → figure * note_size ≤ lent.figure → diagnostic_limit ≤ lent.diagnostics
    → Settled text notes bars figure → reading text lent ≡ given (refusal_with text notes bars figure) (accepted text lent) (refused lent)
unfolding reading
read_as text notes bars figure lent n b f d h = ap (λ r. given r (accepted text lent) (refused lent))
    ((refusal-kept _ (lent_records lent) (record { notes = omega (arith, n); bars = omega (arith, b); figure = omega (arith, f); diagnostics = d }) text).kept h)
