-- `reduction::yields` meets its contract.
-- Assumes nothing.
use mathlib.Core.Bool.{not}
use borrow.Author.Tests.{eq-eqb, ne_eqb}
use mathlib.Core.Path.{ap}
use Rattle.reduction.proofs.Subsumed.{yields-earlier, yields-not, yields-later}
use Rattle.reduction.proofs.yields.Goals as goal

pub returns-then-this-ne0 : goal.returns-then-this-ne0
returns-then-this-ne0 g c =
    yields-earlier _ _ _ _ _ _ _ (ap not (ne_eqb _ _ c.if-this-ne0.true)) c.subsumes_like.ensures

pub subsumes_like-requires-2 : goal.subsumes_like-requires-2
subsumes_like-requires-2 g c =
    record { one = c.requires.other; other = c.requires.one }

pub returns-then-subsumes_like : goal.returns-then-subsumes_like
returns-then-subsumes_like g c =
    yields-not _ _ _ _ _ _ _ (ap not (eq-eqb _ _ c.if-this-ne0.false)) c.subsumes_like-2.ensures c.if-subsumes_like.true

pub returns : goal.returns
returns g c =
    yields-later _ _ _ _ _ _ _ (ap not (eq-eqb _ _ c.if-this-ne0.false)) c.subsumes_like-2.ensures c.if-subsumes_like.false c.subsumes_like-3.ensures
