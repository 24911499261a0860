-- `degree_rows::print` meets its contract: what the rows are printed off was worked out for what was read.
use mathlib.Core.Path.{◌∙◌}
use lib.ListN.{length-replicate}
use Prim.Native.Nat.{ℕ}
use Rattle.std.proofs.Common.{rules, arith}
use Rattle.fields.proofs.Known.{bytes-known}
use Rattle.graph.proofs.Empty.{zero-at}
use Rattle.plain.proofs.Known.{known}
use Rattle.std.specs.Prelude.{true}
use Rattle.lines.specs.Entries.{row_of}
use Rattle.degree_rows.proofs.Read.{no_refusal, was_read, gradable, rated}
use Rattle.degree_rows.proofs.print.Goals as goal

pub invariant_of-read : goal.invariant_of-read
invariant_of-read g c = record { read = was_read (known c.in-Ok.ensures (bytes-known c.args.image.now c.type_inv.image)) }

pub rate-ratings-requires-clause-gradable : goal.rate-ratings-requires-clause-gradable
rate-ratings-requires-clause-gradable g c =
    gradable (known c.in-Ok.ensures (bytes-known c.args.image.now c.type_inv.image)) c.new-on.result c.new-on.ensures.image

pub rate-ratings-requires-clause-empty : goal.rate-ratings-requires-clause-empty
rate-ratings-requires-clause-empty g c =
    λ k. zero-at 4096 k

pub print_rows-requires : goal.print_rows-requires
print_rows-requires g c =
    λ i few κs p typed ranges len lfts. (
      (
        c.args.message.now,
        rated (known c.in-Ok.ensures (bytes-known c.args.image.now c.type_inv.image)) c.new-on.result c.new-on.ensures.image c.rate-ratings.new.notes c.rate-ratings.result len
            c.rate-ratings.ensures,
      ),
      omega (arith, c.new-on.ensures.items),
    )

pub returns : goal.returns
returns g c =
    λ g' t eg et le. c.print_rows.ensures (row_of true c.args.image.now c.args.message.now) (λ i l few post.
    let found = rated (known c.in-Ok.ensures (bytes-known c.args.image.now c.type_inv.image)) c.new-on.result c.new-on.ensures.image c.rate-ratings.new.notes c.rate-ratings.result
    (c.rate-ratings.auto.notes ∙ length-replicate {A = ℕ} 4096 0) c.rate-ratings.ensures in
    rw (← c.new-on.ensures.image) (search rules))

pub returns-in_default : goal.returns-in_default
returns-in_default g c =
    λ g' t eg et le. absurd (no_refusal c.args.image.now c.args.message.now _ g' t c.in_default.ensures eg et)
