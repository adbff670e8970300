-- Tokens with their places, in the rules' words. Assumes nothing.
use Rattle.std.specs.Prelude.{◌≡◌, ◌<◌, ◌+◌, List, [], ◌∷◌, ◌++◌, length, Option, MatchOption}
use Rattle.std.specs.Iterator.{Count, at_most}
use Rattle.rules.specs.Tokens.{Item, items_after, token_of}
use Rattle.tokens.specs.declared.cut.Span.{Span}
use Rattle.tokens.specs.declared.cut.Tokens.{Tokens}

-- the token with its place that it is
abbrev pub item_of : Span → Item
item_of s = record {
  place = s.place.0;
  offset = s.offset.0;
  size = 1 + length s.value.now;
  token = token_of s.first s.value.now;
}

-- the tokens that are left, after those of `before`, the latest first
abbrev pub items_left : Tokens → List Item → List Item
items_left s before = items_after 0 s.place.0 s.rest.start.0 s.rest.bytes.now before

-- a token stands first, before what is left then
pub record IsFirstSpan (s : Tokens) (span : Span) (t : Tokens) : Type 0 where
  pub shorter : length t.rest.bytes.now < length s.rest.bytes.now
  pub parts : s.rest.bytes.now ≡ span.first ∷ (span.value.now ++ t.rest.bytes.now)
  pub left : (before : List Item) → items_left s before ≡ items_left t (item_of span ∷ before)

-- nothing is left
pub record IsEnd (s : Tokens) : Type 0 where
  pub parts : s.rest.bytes.now ≡ []
  pub left : (before : List Item) → items_left s before ≡ before

-- the next token is given, or there is none
abbrev pub GivesSpan : Tokens → Option Span → Tokens → Type 0
GivesSpan s r t = MatchOption r (IsEnd s) (λ span. IsFirstSpan s span t)

-- no more tokens are left than bytes
abbrev pub tokens_at_most : Tokens → Count
tokens_at_most s = at_most (length s.rest.bytes.now)
