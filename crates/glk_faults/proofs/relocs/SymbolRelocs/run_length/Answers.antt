use Rattle.std.proofs.Common.{◌≡◌, ◌+◌, ℕ, true, false, inl, inr, sym, ◌∙◌, subst, arith}
use Rattle.std.proofs.lemmas.Bool.{cases_lt}
use Rattle.glk_readings.specs.Triples.{is_methodoff_at}
use Rattle.glk_reach.specs.Chosen.{relocations_of}
use Rattle.glk_reach.specs.RelocFaults.{run_from}
use Rattle.glk_faults.proofs.Lookups.{as_long}
use Rattle.glk_faults.proofs.RunLengths.{run_is}
use Rattle.glk_faults.proofs.relocs.SymbolRelocs.run_length.Goals as goal

pub loop-end-preserved : goal.loop-end-preserved
loop-end-preserved c =
    let s = c.args.self.now in
    let relocs = relocations_of s.merged.now.program s.key in
    let here : is_methodoff_at relocs c.loop-end.end ≡ true = sym c.is_methodoff.ensures ∙ c.if-not-is_methodoff.false in
    λ j low high. elim (cases_lt j c.loop-end.end) [
      | inl before ↦ c.loop-end.invariant j low before
      | inr late ↦
          let same : c.loop-end.end ≡ j = omega arith in
          let P : ℕ → Type 0 = λ x. is_methodoff_at relocs x ≡ true in
          subst P same here
    ]

pub returns-then-not-is_methodoff : goal.returns-then-not-is_methodoff
returns-then-not-is_methodoff c =
    let s = c.args.self.now in
    let relocs = relocations_of s.merged.now.program s.key in
    let long = as_long s.merged.now.program s.key s.id.0 s.chosen in
    let here : is_methodoff_at relocs c.loop-end.end ≡ false = sym c.is_methodoff.ensures ∙ c.if-not-is_methodoff.true in
    let e : run_from relocs c.args.i + c.args.i ≡ c.loop-end.end = run_is relocs c.args.i c.loop-end.end (omega arith) (omega arith) c.loop-end.invariant (inr here) in
    omega arith

pub returns : goal.returns
returns c =
    let s = c.args.self.now in
    let relocs = relocations_of s.merged.now.program s.key in
    let long = as_long s.merged.now.program s.key s.id.0 s.chosen in
    let e : run_from relocs c.args.i + c.args.i ≡ c.loop-end.end = run_is relocs c.args.i c.loop-end.end (omega arith) (omega arith) c.loop-end.invariant (inl (omega arith)) in
    omega arith
