-- A file that is no image has one refusal.
use Rattle.std.proofs.Common.{◌≡◌, ◌∙◌, List, ℕ, sym, ap}
use Rattle.glk_base.proofs.RuleLaws.{one_first}
use Rattle.glk_cause.specs.declared.cause.Cause.{Cause}
use Rattle.glk_cause.specs.declared.cause.Cause.TheVariants as cause
use Rattle.glk_elf.specs.ReaderFile.{IsElf}
use Rattle.glk_elf.specs.ReaderRules.{Breaks}
use Rattle.glk_elf.proofs.ReaderIntact.{refused}
use Rattle.glk_tools.specs.Images.{IsNoImage}

pub one_refusal : (path file : List ℕ) (a b : Cause) → IsNoImage path file a → IsNoImage path file b → a ≡ b
one_refusal path file a b h k =
    let same = one_first (Breaks file) h.rule k.rule h.offset k.offset h.broken k.broken in
    h.refusal_is ∙ ap (λ r. cause.ElfBad path r h.offset) same.rules ∙ ap (λ o. cause.ElfBad path k.rule o) same.offsets ∙ sym k.refusal_is

-- an image is not refused
pub no_image : (path file : List ℕ) (refusal : Cause) → IsElf file → IsNoImage path file refusal → ⊥
no_image path file refusal elf h = refused file h.rule h.offset h.broken elf
