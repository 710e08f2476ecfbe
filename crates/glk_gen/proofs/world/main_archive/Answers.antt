use Rattle.std.proofs.Common.{◌≤◌, sym, subst, length}
use Rattle.glk_objdesc.specs.declared.desc.ObjDesc.{ObjDesc}
use Rattle.glk_objdesc.specs.Canonical.{object_bytes}
use Rattle.glk_gen.specs.Worlds.{object_bound}
use Rattle.glk_gen.proofs.Lengths.{main_length}
use Rattle.glk_gen.proofs.world.main_archive.Goals as goal

pub archive-requires : goal.archive-requires
archive-requires c =
    let P : ObjDesc → Type 0 = λ d. length (object_bytes d) ≤ object_bound in
    subst P (sym c.in_ok-object.ensures) (main_length c.args.n c.requires)
