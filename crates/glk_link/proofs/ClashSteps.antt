-- What a merge answers, as what the pass for clashes does.
use Rattle.std.proofs.Common.{◌≡◌, ◌<◌, ℕ, List, Option, Some, None, Ok, Err, sym, ap, ◌∙◌}
use Rattle.std.specs.Option.{option_map}
use Rattle.glk_cause.specs.declared.cause.Cause.{Cause}
use Rattle.glk_cause.specs.declared.cause.Cause.TheVariants as cause
use Rattle.glk_cause.specs.Chain.{finds, clear}
use Rattle.glk_arena.specs.World.{symbol_count}
use Rattle.glk_keys.proofs.ContentLaws.{definition_of_object}
use Rattle.glk_keys.specs.Clashes.{Clash, first_clash}
use Rattle.glk_keys.specs.Programs.{Program}
use Rattle.glk_merge.specs.Clashes.{IsFirstClash}
use Rattle.glk_merge.specs.Mergings.{IsDefinitionRow}
use Rattle.glk_merge.specs.declared.clash.Clash.{Clash as NamedClash}
use Rattle.glk_link.specs.Merges.{row_path, clash_refusal}
use Rattle.glk_link.specs.Passes.{IsMerged}

module _ (p : Program) where
  -- nothing clashes
  pub no_clash : first_clash p ≡ None → IsMerged p (Ok p)
  no_clash none = clear (λ refusal is. let nothing : option_map (clash_refusal p) (first_clash p) ≡ None = ap (option_map (clash_refusal p)) none in cc)

  -- a clash is refused
  pub clashes : (c : NamedClash) → IsFirstClash p c → (refusal : Cause)
      → refusal ≡ cause.Clash c.name c.first c.second (row_path p.world c.first.0, row_path p.world c.second.0) → IsMerged p (Err refusal)
  clashes c first refusal is =
      finds refusal (ap (option_map (clash_refusal p)) first.clash
      ∙ ap (λ (n : List ℕ). Some (cause.Clash n c.first c.second (row_path p.world c.first.0, row_path p.world c.second.0))) (sym first.name)
      ∙ ap Some (sym is))

  -- a definition is of one of the objects
  pub of_objects : (r : ℕ) → IsDefinitionRow p r → r < symbol_count p.world
  of_objects r d = definition_of_object p r d.row d.definition
