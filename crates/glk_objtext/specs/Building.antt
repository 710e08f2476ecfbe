-- What a description that grows line by line comes to.
use Rattle.std.specs.Prelude.{◌≡◌, ◌==◌, ◌++◌, ℕ, List, ◌∷◌, [], if◌then◌else◌, Option, Some, None, Result, Ok, Err}
use Rattle.glk_base.specs.declared.fault.Fault.{Fault}
use Rattle.glk_base.specs.declared.fault.Fault.TheVariants.{Bad, OutOfMemory}
use Rattle.glk_objdesc.specs.declared.desc.DefDesc.{DefDesc}
use Rattle.glk_objdesc.specs.declared.desc.ObjDesc.{ObjDesc}
use Rattle.glk_objtext.specs.Description.{flags_from, fingerprint_from, imports, packages, sources, references, flag_records, ref_names, content_under, relocs_under, auxes_under, block_number, definitions}
use Rattle.glk_objtext.specs.Reading.{read_lines}
use Rattle.glk_objtext.specs.Rules.{next_number}
use Rattle.glk_objtext.specs.declared.read.TextBad.{TextBad}
use Rattle.glk_objtext.specs.declared.stage.Stage.{Stage}
use Rattle.glk_objtext.specs.declared.builder.Builder.{Builder}
use Rattle.glk_objtext.specs.declared.builder.OpenDef.{OpenDef}
use Rattle.glk_objtext.specs.declared.line.DefBlock.{DefBlock}
use Rattle.glk_objtext.specs.declared.line.DefBlock.TheVariants.{Symdef, Hashed64def, Hasheddef, Nonpkgdef}
use Rattle.glk_objtext.specs.declared.line.Line.{Line}
use Rattle.glk_objtext.specs.declared.line.Line.TheVariants.{Content, Relocation, Auxiliary}

-- the open definition with the parts that follow, where it is one of the block's
abbrev pub open_definition : DefBlock → Option OpenDef → List Line → List DefDesc
open_definition block None more = []
open_definition block (Some o) more =
    if block_number o.block == block_number block then
    record { sym = o.sym; hash = o.hash; content = content_under o.content more; relocs = o.relocs.items ++ relocs_under more; auxes = o.auxes.items ++ auxes_under more } ∷ []
    else []

-- what was taken, and what the lines that follow add to it
abbrev pub description_with : Builder → List Line → ObjDesc
description_with b more = record {
  flags = flags_from b.flags more;
  fingerprint = fingerprint_from b.fingerprint more;
  autolib = b.autolib.items ++ imports more;
  pkgs = b.pkgs.items ++ packages more;
  files = b.files.items ++ sources more;
  defs = b.defs.items ++ (open_definition Symdef b.open more ++ definitions Symdef more);
  hash64 = b.hash64.items ++ (open_definition Hashed64def b.open more ++ definitions Hashed64def more);
  hashed = b.hashed.items ++ (open_definition Hasheddef b.open more ++ definitions Hasheddef more);
  ndefs = b.ndefs.items ++ (open_definition Nonpkgdef b.open more ++ definitions Nonpkgdef more);
  refs = b.refs.items ++ references more;
  ref_flags = b.ref_flags.items ++ flag_records more;
  ref_names = b.ref_names.items ++ ref_names more;
}

-- lines that do not begin with a part of a definition
abbrev pub EndsParts : List Line → Type 0
EndsParts (Content bytes ∷ more) = ⊥
EndsParts (Relocation r ∷ more) = ⊥
EndsParts (Auxiliary a ∷ more) = ⊥
EndsParts lines = Unit {0}

-- no definition is open any more, and nothing else is changed
pub record IsClosed (before after : Builder) : Type 0 where
  pub closed : after.open ≡ None
  pub same : (more : List Line) → EndsParts more → description_with after more ≡ description_with before more

-- the builder has taken this line: with whatever follows, it is as if the line came before that
abbrev pub Takes : Builder → Line → Builder → Type 0
Takes before line after = (more : List Line) → description_with after more ≡ description_with before (line ∷ more)

-- what was taken, and what the lines that follow add, unless one of these is bad
abbrev pub answer_with : Builder → Result (List Line) TextBad → Result ObjDesc TextBad
answer_with b (Ok good) = Ok (description_with b good)
answer_with b (Err bad) = Err bad

-- the reader has taken this line: with whatever follows, it is as if the line came before that
abbrev pub ReadsOn : Builder → Stage → List ℕ → Builder → Stage → Type 0
ReadsOn before stage raw after next = (n : ℕ) (more : List (List ℕ))
    → answer_with after (read_lines (next_number n) next more) ≡ answer_with before (read_lines n stage (raw ∷ more))

-- a line that is refused for this reason, whichever number it has and whatever follows it
abbrev pub IsRefusedLine : Stage → List ℕ → Fault ℕ → Type 0
IsRefusedLine stage raw (Bad rule) = (n : ℕ) (more : List (List ℕ)) → read_lines n stage (raw ∷ more) ≡ Err (record { line = n; rule = rule })
IsRefusedLine stage raw OutOfMemory = Unit {0}
