-- The numbers of packages that mean no entry of PkgIdx.
use Rattle.std.specs.Prelude.{◌<◌, ◌⊎◌, ℕ}

-- of a reference to nothing
abbrev pub nil_package : ℕ
nil_package = 0

-- of symbols without a package: Nonpkgdef and Nonpkgref (2^31 - 1)
abbrev pub none_package : ℕ
none_package = 0x7fff_ffff

-- of Hashed64def
abbrev pub hashed64_package : ℕ
hashed64_package = 0x7fff_fffe

-- of Hasheddef
abbrev pub hashed_package : ℕ
hashed_package = 0x7fff_fffd

-- of the list of symbols that every linker knows
abbrev pub builtin_package : ℕ
builtin_package = 0x7fff_fffc

-- of Symdef: the object's own package (2^31 - 5)
abbrev pub self_package : ℕ
self_package = 0x7fff_fffb

-- the number of an entry of PkgIdx: no special number
abbrev pub IsImported : ℕ → Type 0
IsImported pkg = ((nil_package < pkg) × (pkg < self_package)) ⊎ (none_package < pkg)
