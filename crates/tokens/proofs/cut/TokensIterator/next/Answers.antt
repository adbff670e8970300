use Rattle.std.proofs.Common.{◌≡◌, ◌+◌, ◌-◌, refl, [], ◌∷◌, ◌++◌, ◌≤◌, ℕ, List, suc, length, take, drop, ap, sym, ◌∙◌, arith, length-drop, length-take-le}
use Rattle.std.proofs.lemmas.List.{take-append-drop}
use Rattle.rules.specs.Text.{Part}
use Rattle.rules.specs.Cut.{token_size}
use Rattle.rules.specs.Tokens.{items_after, token_of}
use Rattle.tokens.proofs.CutLaws.{items_nil, items_cut, whole_cut}
use Rattle.tokens.proofs.cut.TokensIterator.next.Goals as goal

no_bytes : (l : List ℕ) → length l ≡ 0 → l ≡ []
no_bytes [] e = refl
no_bytes (b ∷ bs) e = absurd (omega (arith, e))

pub returns-in_default-clause-steps : goal.returns-in_default-clause-steps
returns-in_default-clause-steps c = record { parts = no_bytes _ c.in_default.ensures.cases; left = λ before. items_nil _ _ _ before c.in_default.ensures.cases }

pub invariant_of-span-clause-whole : goal.invariant_of-span-clause-whole
invariant_of-span-clause-whole c =
    let h : suc (c.token_size-size.result - 1) ≡ token_size (c.in-Some.first.now ∷ c.in-Some.rest.now) = omega (arith, c.token_size-size.ensures.size, c.token_size-size.ensures.some) in
    whole_cut _ _ (c.token_size-size.result - 1) h

pub invariant_of-span-clause-fits : goal.invariant_of-span-clause-fits
invariant_of-span-clause-fits c =
    let within : c.token_size-size.result - 1 ≤ length c.in-Some.rest.now = omega (arith, c.token_size-size.ensures.some, c.token_size-size.ensures.within) in
    omega (arith, c.args.self.now.rest.fits, ap length c.in-Some.ensures.cases.0, length-take-le (c.token_size-size.result - 1) c.in-Some.rest.now within)

pub returns-clause-steps : goal.returns-clause-steps
returns-clause-steps c =
    let xs = c.args.self.now.rest.bytes.now in
    let p = c.args.self.now.place.0 in
    let o = c.args.self.now.rest.start.0 in
    let b = c.in-Some.first.now in
    let bs = c.in-Some.rest.now in
    let size = c.token_size-size.result in
    let n = size - 1 in
    let one : suc n ≡ size = omega (arith, c.token_size-size.ensures.some) in
    let h : suc n ≡ token_size (b ∷ bs) = one ∙ c.token_size-size.ensures.size in
    let within : n ≤ length bs = omega (arith, one, c.token_size-size.ensures.within) in
    let xs_is : xs ≡ b ∷ bs = c.in-Some.ensures.cases.0 in
    let start_is : c.without-self.result.start.0 ≡ o + suc n = ap (λ (q : Part). q.start) c.without-self.ensures ∙ ap (λ (k : ℕ). o + k) (sym one) in
    let bytes_is : c.without-self.result.bytes.now ≡ drop n bs = ap (λ (q : Part). q.bytes) c.without-self.ensures ∙ (λ i. drop (sym one i) (xs_is i)) in
    let size_is : suc n ≡ 1 + length (take n bs) = omega (arith, length-take-le n bs within) in
    record {
      shorter = omega (arith, ap length bytes_is, length-drop n bs, ap length xs_is);
      parts = xs_is ∙ ap (λ (ys : List ℕ). b ∷ ys) (sym (take-append-drop n bs)) ∙ (λ i. b ∷ (take n bs ++ sym bytes_is i));
      left = λ before. (λ i. items_after 0 p o (xs_is i) before) ∙ items_cut p o n b bs before h
          ∙ (λ i. items_after 0 (p + 1 + sym c.count_characters.ensures.count i) (sym start_is i) (sym bytes_is i) ((record { place = p; offset = o; size = size_is i; token = token_of b (take n bs) }) ∷ before));
    }
