use Rattle.std.proofs.Common.{sym, ap}
use Rattle.glk_keys.specs.Rows.{is_from_definition}
use Rattle.glk_keys.proofs.contents.is_definition_in.Goals as goal

pub returns-in-Symdef : goal.returns-in-Symdef
returns-in-Symdef c = sym (ap is_from_definition c.in-Symdef.ensures.origin)

pub returns-in-Hashed64def : goal.returns-in-Hashed64def
returns-in-Hashed64def c = sym (ap is_from_definition c.in-Hashed64def.ensures.origin)

pub returns-in-Hasheddef : goal.returns-in-Hasheddef
returns-in-Hasheddef c = sym (ap is_from_definition c.in-Hasheddef.ensures.origin)

pub returns-in-Nonpkgdef : goal.returns-in-Nonpkgdef
returns-in-Nonpkgdef c = sym (ap is_from_definition c.in-Nonpkgdef.ensures.origin)

pub returns-in-Nonpkgref : goal.returns-in-Nonpkgref
returns-in-Nonpkgref c = sym (ap is_from_definition c.in-Nonpkgref.ensures.origin)
