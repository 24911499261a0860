-- `listing::plan` meets its contract: too long, or the listing of the register's bytes and all the rest.
-- Assumes nothing.
use mathlib.Core.Path.{refl, sym, ap, ◌∙◌, subst}
use Rattle.std.specs.Prelude.{ℕ}
use lib.ListN.{take, drop}
use Rattle.std.proofs.lemmas.List.{take-append-drop}
use mathlib.Core.List.{List, []}
use Rattle.listing.specs.Pieces.{Opens}
use Rattle.listing.proofs.Items.{too_long_lem, not-too-long}
use Rattle.listing.proofs.Pieces.{opens-line}
use Rattle.listing.proofs.plan.Goals as goal

pub returns-then-input-gt-MOST_INPUT : goal.returns-then-input-gt-MOST_INPUT
returns-then-input-gt-MOST_INPUT c =
    record {
      image = [];
      message = c.args.input.now;
      split = refl;
      opens = opens-line _ _ (c.line_of.ensures ∙ sym (too_long_lem _ c.if-input-gt-MOST_INPUT.true));
    }

pub returns : goal.returns
returns c =
    let s = c.args.input.now in
    let at = c.split_at.ensures in
    let k = c.register_end.ensures.value in
    let same = not-too-long s _ _ c.if-input-gt-MOST_INPUT.false (at.front ∙ ap (λ (z : ℕ). take z s) k) (at.back ∙ ap (λ (z : ℕ). drop z s) k) in
    record {
      image = c.split_at.result.0.now;
      message = c.split_at.result.1.now;
      split = rw (at.front, at.back) (take-append-drop c.register_end.result s);
      opens = subst (λ (t : List ℕ). Opens c.split_at.result.0.now c.split_at.result.1.now t c.plan_of.result) (sym same) c.plan_of.ensures;
    }
