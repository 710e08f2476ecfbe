-- The name of a key is that of the row.
use Rattle.std.proofs.Common.{◌≡◌, ℕ, List, Bool, true, false}
use Rattle.std.specs.Prelude.{◌||◌, ◌==◌, length, if◌then◌else◌}
use Rattle.glk_obj.specs.Records.{Symbol}
use Rattle.glk_obj.specs.Symbols.{abi_static}
use Rattle.glk_keys.specs.Keys.{of_object, named, name_key, key_from}
use Rattle.glk_keys.specs.Rows.{Origin, in_symdef, in_hashed64def, in_hasheddef, in_nonpkgdef, in_nonpkgref, own}

by_test : (b : Bool) (n i : ℕ) (s : Symbol) (name : List ℕ) (abi : ℕ) → named name abi ≡ (if b then of_object n i else named s.name s.abi) → name ≡ s.name
by_test true n i s name abi e = cc
by_test false n i s name abi e = cc

by_name : (n i : ℕ) (s : Symbol) (name : List ℕ) (abi : ℕ) → named name abi ≡ name_key n i s → name ≡ s.name
unfolding name_key
by_name n i s name abi e = by_test ((s.abi == abi_static) || (length s.name == 0)) n i s name abi e

pub named_as : (o : Origin) (n i : ℕ) (s : Symbol) (name : List ℕ) (abi : ℕ) → named name abi ≡ key_from o n i s → name ≡ s.name
named_as (in_hashed64def hash) n i s name abi e = cc
named_as (in_hasheddef hash) n i s name abi e = cc
named_as in_symdef n i s name abi e = by_name n i s name abi e
named_as in_nonpkgdef n i s name abi e = by_name n i s name abi e
named_as in_nonpkgref n i s name abi e = by_name n i s name abi e
named_as own n i s name abi e = by_name n i s name abi e
