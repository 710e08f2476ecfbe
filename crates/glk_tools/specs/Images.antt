-- Files that are no images.
use Rattle.std.specs.Prelude.{◌≡◌, ℕ, ◌^◌, List}
use Rattle.glk_base.specs.Rules.{FirstBroken}
use Rattle.glk_cause.specs.declared.cause.Cause.{Cause}
use Rattle.glk_cause.specs.declared.cause.Cause.TheVariants as cause
use Rattle.glk_elf.specs.ReaderRules.{Breaks}

-- how long an image may be
abbrev pub image_limit : ℕ
image_limit = 2 ^ 30

-- the refusal of the file at a path that is no image: its first broken rule
pub record IsNoImage (path file : List ℕ) (refusal : Cause) : Type 0 where
  pub rule : ℕ
  pub offset : ℕ
  pub broken : FirstBroken (Breaks file) rule offset
  pub refusal_is : refusal ≡ cause.ElfBad path rule offset
