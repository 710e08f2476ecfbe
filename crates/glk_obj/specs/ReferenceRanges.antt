-- The numbers of records that a test of references goes by.
use Rattle.std.specs.Prelude.{◌≡◌, ◌+◌, ℕ, List}
use Rattle.glk_obj.specs.declared.references.ReferenceRange.{ReferenceRange}
use Rattle.glk_obj.specs.Blocks.{count, pkg_idx, symdef, hashed64def, hasheddef, nonpkgdef, nonpkgref}

pub record IsRangeOf (b : List ℕ) (range : ReferenceRange) : Type 0 where
  pub without_package : range.without_package ≡ count b nonpkgdef + count b nonpkgref
  pub hashed64 : range.hashed64 ≡ count b hashed64def
  pub hashed : range.hashed ≡ count b hasheddef
  pub own : range.own ≡ count b symdef
  pub packages : range.packages ≡ count b pkg_idx
