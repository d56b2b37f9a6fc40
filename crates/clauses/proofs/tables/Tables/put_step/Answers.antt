use Rattle.std.proofs.Common.{◌≡◌, length, refl, arith, rules}
use Rattle.design.specs.Limits.{max_bits}
use Rattle.clauses.proofs.EmitFormula.{step_written, step_state}
use Rattle.clauses.proofs.tables.Tables.put_step.Goals as goal

pub returns : goal.returns
returns c =
    λ piece d j ok es low at. step_written piece c.args.self.ready c.args.self.bytes c.requires.0 _ _ _ _ _ _ _ c.variables-bits.result _ refl refl refl (omega (
      arith,
      c.frame_length.ensures.0,
    )) refl (search rules) c.put_any-a.ensures c.put_pairs-b.ensures c.encode_step-g.ensures (λ e w. c.encode_step_property-x.ensures e w piece) c.put_all_ties.ensures d j ok es low at
    (step_state piece c.args.self.ready c.args.self.bytes c.requires.0 _ _ _ c.variables-bits.result refl (let h : length c.variables-bits.result ≡ max_bits =
    search (c.variables-bits.type_inv, rules) in h) c.variables-bits.ensures d j ok es low at)
