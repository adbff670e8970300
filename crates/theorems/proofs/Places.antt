-- What a token does to the headings of the stored records: it adds those of what it stores, at its own place, and changes none. Assumes nothing.
use Prim.Native.Nat.{ℕ, zero, suc, ◌≤◌}
use mathlib.Core.Path.{◌≡◌, refl, sym, ap, ◌∙◌}
use mathlib.Core.Bool.{Bool, true, false, cond}
use mathlib.Core.List.{List, [], ◌∷◌, ◌++◌, map, append_assoc, map-append}
use native.Mathlib.Omega.{arith}
use lib.ListN.{replicate}
use Rattle.rules.specs.Tokens.{latest_place, Ordered, letter_in, is_rest, is_barline, right_in, figure_in, whole_bars_in, Token, Item}
use Rattle.rules.specs.Records.{is_some, is_empty, notes_of, Pitch, Heading, Notations, Note}
use Rattle.rules.specs.Rules.{finished, close, joins, opens, copied, repeated, whole_bar_rest, stores, add_pitch, joined, notations_next, with_notations, step, further_bars, inner_barline, in_turn, state_after, stored, State, Attributes}
use Rattle.rules.specs.Agreement.{All}
use Rattle.theorems.proofs.Lists.{cond_ind, given-ind, all-imp, all-++, all_map}
use Rattle.theorems.proofs.WholeBars.{whole_at, by-turns}

abbrev pub headings : List Note → List Heading
headings l = map (λ r. r.heading) l

-- what was open, marked and perhaps with one more pitch
abbrev pub older : ℕ → Token → State → List Note
older p t s = with_notations (notations_next t s) 0 (joined p t s)

-- a joining letter and marks change no heading; behind new records
pub headings-behind : (new : List Note) (p : ℕ) (t : Token) (s : State) → headings (new ++ older p t s) ≡ headings new ++ headings s.open_bar
headings-behind new p t s = map-append (λ (r : Note). r.heading) new (older p t s) ∙ ap (λ l. headings new ++ l) (renote (notations_next t s) 0 (joined p t s)
    ∙ given-ind (λ l. headings l ≡ headings s.open_bar) (letter_in t) refl (λ n. cond_ind (λ l. headings l ≡ headings s.open_bar) (joins s) (add _ s.open_bar) refl))
  where
    add : (a : Pitch) (l : List Note) → headings (add_pitch a l) ≡ headings l
    add a [] = refl
    add a (n ∷ l) = refl

    renote : (f : ℕ → Note → Notations) (i : ℕ) (l : List Note) → headings (with_notations f i l) ≡ headings l
    renote f i [] = refl
    renote f i (n ∷ l) = ap (λ r. n.heading ∷ r) (renote f (suc i) l)

-- a barline moves the open bar's notes to the stored bars
pub close-notes : (r : ℕ) (s : State) → notes_of (close r s) ≡ s.open_bar ++ notes_of s.bars
close-notes r s = go s.open_bar refl
  where
    go : (l : List Note) → s.open_bar ≡ l → notes_of (cond (is_empty l) s.bars (finished r s ∷ s.bars)) ≡ s.open_bar ++ notes_of s.bars
    go [] e = sym (ap (λ o. o ++ notes_of s.bars) e)
    go (n ∷ l) e = refl

-- what a token with so many further bars stores
abbrev pub stored_by : Item → ℕ → State → List Note
stored_by x further s = replicate further (whole_bar_rest x.place) ++ cond (is_barline x.token) [] (stores x.place x.token s)

-- a step leaves the stored headings alone and adds those of what it stores
pub headings-step : (x : Item) (s : State) → headings (stored (step x s)) ≡ headings (cond (is_barline x.token) [] (stores x.place x.token s)) ++ headings (stored s)
unfolding step
headings-step x s = go (is_barline x.token)
  where
    new : List Note
    new = stores x.place x.token s

    go : (b : Bool) → headings (cond b [] (new ++ older x.place x.token s) ++ notes_of (cond b (close (right_in x.token) s) s.bars)) ≡ headings (cond b [] new) ++ headings (stored s)
    go true = ap headings (close-notes (right_in x.token) s)
    go false = map-append (λ (r : Note). r.heading) (new ++ older x.place x.token s) (notes_of s.bars)
        ∙ ap (λ l. l ++ headings (notes_of s.bars)) (headings-behind new x.place x.token s) ∙ append_assoc (headings new) (headings s.open_bar) (headings (notes_of s.bars))
        ∙ ap (λ l. headings new ++ l) (sym (map-append (λ (r : Note). r.heading) s.open_bar (notes_of s.bars)))

-- and so a token, over all its turns
pub headings-turn : (x : Item) (s : State) → headings (stored (in_turn x (further_bars x.token) s)) ≡ headings (stored_by x (further_bars x.token) s) ++ headings (stored s)
headings-turn x s = by-turns (λ x n. headings (stored (in_turn x n s)) ≡ headings (stored_by x n s) ++ headings (stored s)) (λ x. headings-step x s) (λ x n further. turns x n (suc further)) x
  where
    turns : (x : Item) (n further : ℕ) → headings (stored (in_turn (whole_at x n) further s)) ≡ headings (stored_by (whole_at x n) further s) ++ headings (stored s)
    turns x n zero = headings-step (whole_at x n) s
    turns x n (suc further) =
        let t : State = in_turn (whole_at x n) further s in
        headings-step (whole_at x n) (step (inner_barline x) t) ∙ ap (λ l. (whole_bar_rest x.place).heading ∷ l) (headings-step (inner_barline x) t ∙ turns x n further)

-- a token stores records at its own place only
pub stored_here : (x : Item) (further : ℕ) (s : State) → All (λ h. h.place ≡ x.place) (headings (stored_by x further s))
stored_here x further s = all_map (λ (r : Note). r.heading) (λ h. h.place ≡ p) (stored_by x further s) (all-++ Here (replicate further (whole_bar_rest p)) _ (rests further)
    (cond_ind (All Here) (is_barline t) tt
    (cond_ind (All Here) (opens t s) (given-ind (All Here) (letter_in t) tt (λ n. (refl, tt)))
    (cond_ind (All Here) (is_rest t) (refl, tt)
    (cond_ind (All Here) (is_some (whole_bars_in t)) (refl, tt)
    (given-ind (All Here) (figure_in t) tt (λ f. copies (repeated f s))))))))
  where
    t : Token
    t = x.token

    p : ℕ
    p = x.place

    Here : Note → Type 0
    Here n = n.heading.place ≡ p

    copies : (l : List Note) → All Here (map (copied p) l)
    copies [] = tt
    copies (n ∷ l) = (refl, copies l)

    rests : (n : ℕ) → All Here (replicate n (whole_bar_rest p))
    rests zero = tt
    rests (suc n) = (refl, rests n)

-- no stored record stands after the latest token
pub places-till : (k : Attributes) (e : List Item) → Ordered e → All (λ h. h.place ≤ latest_place e) (headings (stored (state_after k e)))
unfolding state_after
places-till k [] h = tt
places-till k (x ∷ e) h =
    let s : State = state_after k e in
    let new : List Heading = headings (stored_by x (further_bars x.token) s) in
    rw (headings-turn x s) (all-++ (λ g. g.place ≤ x.place) new (headings (stored s)) (all-imp (λ g q. omega arith) new (stored_here x (further_bars x.token) s)) (all-imp (λ g q. omega (arith, h.0)) (headings (stored s)) (places-till k e h.1)))
