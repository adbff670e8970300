-- A walk over the tokens of the data is their run. Assumes nothing.
use Rattle.std.proofs.Common.{◌≡◌, List, [], ◌∷◌, Ok, Err, refl, sym, ap, ◌∙◌}
use Rattle.rules.specs.Text.{Part}
use Rattle.rules.specs.Tokens.{Token, Item, items_of}
use Rattle.rules.specs.Refusals.{refusal}
use Rattle.tokens.specs.declared.cut.Span.{Span}
use Rattle.tokens.specs.declared.cut.Tokens.{Tokens}
use Rattle.tokens.specs.Spans.{item_of, items_left, IsFirstSpan}
use Rattle.view.specs.declared.refusal.Refusal.{Refusal}
use Rattle.view.specs.Refusals.{refusal_number}
use Rattle.view.specs.View.{View}
use Rattle.view.specs.Steps.{after_token}
use Rattle.view.specs.Ready.{IsReady}
use Rattle.view.specs.Run.{IsFresh, at_token, then_token, run, Walked}
use Rattle.view.proofs.RunLaws.{ready_before, refused_after}

module _ (v : View) (d : Part) where
  -- before the first token
  pub walk_begins : (s : Tokens) → items_left s [] ≡ items_of d → Walked v d s v
  walk_begins s e = record { before = []; left = sym e; ran = refl }

  module _ (s : Tokens) (w : View) (h : Walked v d s w) where
    -- what the steps ask
    pub walk_ready : IsFresh v → IsReady w
    walk_ready f = ready_before f d s.place.0 s.rest.start.0 s.rest.bytes.now h.before w h.left h.ran

    -- behind the last one
    pub walk_ends : ((before : List Item) → items_left s before ≡ before) → run v (items_of d) ≡ Ok w
    walk_ends e = ap (run v) (h.left ∙ e h.before) ∙ h.ran

    module _ (span : Span) (t : Tokens) (first : IsFirstSpan s span t) (token : Token) (is : token ≡ (item_of span).token) where
      next_left : items_of d ≡ items_left t (item_of span ∷ h.before)
      next_left = h.left ∙ first.left h.before

      -- the next one is taken
      pub walk_goes_on : (u : View) → after_token (item_of span) token w ≡ Ok u → Walked v d t u
      walk_goes_on u e = record {
        before = item_of span ∷ h.before;
        left = next_left;
        ran = ap (then_token (item_of span)) h.ran ∙ ap (λ (t : Token). at_token (item_of span) (after_token (item_of span) t w)) (sym is) ∙ ap (at_token (item_of span)) e;
      }

      -- or refused
      pub walk_stops : (r : Refusal) → after_token (item_of span) token w ≡ Err r → run v (items_of d) ≡ Err (refusal (refusal_number r) span.place.0)
      walk_stops r e = ap (run v) next_left ∙ refused_after v (refusal (refusal_number r) span.place.0) 0 t.place.0 t.rest.start.0 t.rest.bytes.now (item_of span ∷ h.before)
          (ap (then_token (item_of span)) h.ran ∙ ap (λ (t : Token). at_token (item_of span) (after_token (item_of span) t w)) (sym is) ∙ ap (at_token (item_of span)) e)

pub ruleset walk_laws = (walk_begins, walk_ready, walk_ends, walk_goes_on, walk_stops)
