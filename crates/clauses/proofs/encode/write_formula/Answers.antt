use Rattle.std.proofs.Common.{arith}
use Rattle.clauses.proofs.EncodeCall.{writable_accepted, writable_admitted, formula_written}
use Rattle.clauses.proofs.EmitFormula.{formula_ready}
use Rattle.clauses.proofs.encode.write_formula.Goals as goal

pub sizes-s-requires : goal.sizes-s-requires
sizes-s-requires c = (writable_accepted c.requires, c.requires.right)

pub index_events-requires : goal.index_events-requires
index_events-requires c = writable_accepted c.requires

pub instance-requires : goal.instance-requires
instance-requires c = writable_accepted c.requires

pub put_parts-words-requires : goal.put_parts-words-requires
put_parts-words-requires c =
    let z = c.instance.ensures in
    rw z.asked (
      formula_ready _ (writable_admitted c.requires (λ i. omega (arith, c.shared_slice_known-1.given i)) c.sizes-s.ensures.0 c.sizes-s.ensures.1)
          (λ i. omega (arith, c.shared_slice_known-1.given i)) z.indexed z.measured,
      c.requires.right,
    )

pub returns : goal.returns
returns c =
    formula_written _ _ _ _ _ _ _ _ _ c.requires (λ i. omega (arith, c.shared_slice_known-1.given i)) c.sizes-s.ensures.1
    (rw c.instance.ensures.asked at c.put_parts-words.ensures) c.variables.ensures.0
