-- The key and the class of a symbol, by its block.
use Rattle.std.proofs.Common.{◌≡◌, ℕ, ◌<◌, List, Bool, true, false, Some, None, refl, ap, ◌∙◌, arith}
use Rattle.std.specs.Prelude.{◌||◌, ◌&&◌, ◌==◌, not, length, if◌then◌else◌}
use Rattle.glk_base.proofs.Groups.{lt_true}
use Rattle.glk_obj.specs.Flags.{is_dupok}
use Rattle.glk_obj.specs.Blocks.{count, hash64, hashed64def}
use Rattle.glk_obj.specs.Object.{IsObject}
use mathlib.Core.Logic.{dite}
use native.Mathlib.Decide.{ℕ_discrete}
use Rattle.glk_obj.specs.Records.{symbol_at, data_at}
use Rattle.glk_table.specs.declared.ranks.RankClass.TheVariants.{Strong, Shared, Other}
use Rattle.glk_keys.specs.Blocks.{origin_in, class_in, flag_class_of, IsInBlock}
use Rattle.glk_keys.specs.declared.blocks.SymbolBlock.{SymbolBlock}
use Rattle.glk_keys.specs.declared.blocks.SymbolBlock.TheVariants.{Symdef, Hashed64def, Hasheddef, Nonpkgdef, Nonpkgref}
use Rattle.glk_keys.specs.Keys.{row_key, key_from}
use Rattle.glk_keys.specs.LocalIndices.{first_reference}
use Rattle.glk_keys.specs.Rows.{Row, Origin, in_symdef, in_hashed64def, in_hasheddef, in_nonpkgdef, in_nonpkgref, object_row, origin_at, content_at}
use Rattle.glk_keys.specs.Votes.{class_of}

-- the key goes by where the row is from
pub key_at : (n i : ℕ) (b : List ℕ) (block : SymbolBlock) → origin_at b i ≡ origin_in b i block → row_key (object_row n b i) ≡ key_from (origin_in b i block) n i (symbol_at b i)
key_at n i b block e = ap (λ (o : Origin). key_from o n i (symbol_at b i)) e

-- there is a short hash for each symbol of Hashed64def
pub short_hashes : (b : List ℕ) → IsObject b → count b hash64 ≡ count b hashed64def
short_hashes b o = dite (ℕ_discrete (count b hash64) (count b hashed64def)) (λ e. e) (λ ne. absurd (o.short_hashes_counted _ (ne, refl)))

by_flags : (dupok empty : Bool)
    → (if not empty && not (dupok || false) then Strong else if dupok || false then Shared else Other) ≡ (if dupok then Shared else if empty then Other else Strong)
by_flags true true = refl
by_flags true false = refl
by_flags false true = refl
by_flags false false = refl

by_hash : (dupok empty : Bool) → (if not empty && not (dupok || true) then Strong else if dupok || true then Shared else Other) ≡ Shared
by_hash true true = refl
by_hash true false = refl
by_hash false true = refl
by_hash false false = refl

pub content_is : (b : List ℕ) (i : ℕ) → i < first_reference b → content_at b i ≡ data_at b i
unfolding content_at
content_is b i h = rw (lt_true i (first_reference b) h) refl

-- a row of symbol i of object n, from anywhere and with any data
abbrev row_from : ℕ → List ℕ → ℕ → Origin → List ℕ → Row
row_from n b i origin content = record { object = n; local = i; origin = origin; symbol = symbol_at b i; content = content }

class_symdef : (n : ℕ) (b : List ℕ) (i : ℕ) → class_of (row_from n b i in_symdef (data_at b i)) ≡ Some (flag_class_of b i)
unfolding class_of flag_class_of
class_symdef n b i = ap Some (by_flags (is_dupok (symbol_at b i)) (length (data_at b i) == 0))

class_nonpkgdef : (n : ℕ) (b : List ℕ) (i : ℕ) → class_of (row_from n b i in_nonpkgdef (data_at b i)) ≡ Some (flag_class_of b i)
unfolding class_of flag_class_of
class_nonpkgdef n b i = ap Some (by_flags (is_dupok (symbol_at b i)) (length (data_at b i) == 0))

class_hashed64 : (n : ℕ) (b : List ℕ) (i : ℕ) (hash content : List ℕ) → class_of (row_from n b i (in_hashed64def hash) content) ≡ Some Shared
unfolding class_of
class_hashed64 n b i hash content = ap Some (by_hash (is_dupok (symbol_at b i)) (length content == 0))

class_hashed : (n : ℕ) (b : List ℕ) (i : ℕ) (hash content : List ℕ) → class_of (row_from n b i (in_hasheddef hash) content) ≡ Some Shared
unfolding class_of
class_hashed n b i hash content = ap Some (by_hash (is_dupok (symbol_at b i)) (length content == 0))

class_nonpkgref : (n : ℕ) (b : List ℕ) (i : ℕ) (content : List ℕ) → class_of (row_from n b i in_nonpkgref content) ≡ None
unfolding class_of
class_nonpkgref n b i content = refl

-- the class goes by it too, and for some by the flags and the data
pub class_at : (n i : ℕ) (b : List ℕ) (block : SymbolBlock) → origin_at b i ≡ origin_in b i block → IsInBlock b i block → class_of (object_row n b i) ≡ class_in b i block
class_at n i b Symdef e inside =
    let content = content_is b i (omega arith) in
    (λ z. class_of (row_from n b i (e z) (content z))) ∙ class_symdef n b i
class_at n i b Hashed64def e inside = ap (λ (o : Origin). class_of (row_from n b i o (content_at b i))) e ∙ class_hashed64 n b i _ (content_at b i)
class_at n i b Hasheddef e inside = ap (λ (o : Origin). class_of (row_from n b i o (content_at b i))) e ∙ class_hashed n b i _ (content_at b i)
class_at n i b Nonpkgdef e inside =
    let content = content_is b i inside.1 in
    (λ z. class_of (row_from n b i (e z) (content z))) ∙ class_nonpkgdef n b i
class_at n i b Nonpkgref e inside = ap (λ (o : Origin). class_of (row_from n b i o (content_at b i))) e ∙ class_nonpkgref n b i (content_at b i)
