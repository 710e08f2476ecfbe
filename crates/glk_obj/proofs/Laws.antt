-- What the rules give to a reader of an object.
use Rattle.std.proofs.Common.{◌≡◌, ◌≢◌, ◌∙◌, cond, ◌+◌, ◌-◌, ◌*◌, ◌<◌, ◌≤◌, ◌==◌, ◌^◌, inl, inr, ℕ, pos, Some, List, length, Bool, true, false, MatchBool, arith, refl, subst, sym, zero, suc, ◌⊎◌}
use Rattle.std.proofs.lemmas.Bool.{cases_lt, cases_eq, ne_eqb, eqb-true, ltb-true, true_from_ne_false}
use Rattle.std.proofs.lemmas.Int.{to_z_pos, of_z-to_z}
use Rattle.std.proofs.Math.Nat.{mul-div_cancel, mul-le-mul_left}
use Rattle.std.proofs.lemmas.List.{length-take, length-drop}
use Rattle.std.specs.Int.{cast_unsigned, w32}
use Rattle.std.specs.Prelude.{nat_lt}
use Rattle.glk_base.specs.Bytes.{number_at}
use Rattle.glk_obj.specs.declared.fields.Field.TheVariants.{Text, Target}
use Rattle.glk_obj.specs.Blocks.{header_offset, offset_of, extent_of, width_of, count, pkg_idx, symdef, hasheddef, nonpkgref, ref_flags, hash, reloc, aux, contents, ref_name, data_idx, reloc_idx, aux_idx, end, symbol_width, reloc_width, aux_width, ref_flags_width, ref_name_width}
use Rattle.glk_obj.specs.Fields.{HasField, shift_of, field_offset, IsFieldOffset}
use Rattle.glk_obj.specs.Layout.{HasLayout}
use Rattle.glk_obj.specs.Object.{IsObject}
use Rattle.glk_obj.specs.Packages.{nil_package, none_package, hashed64_package, hashed_package, builtin_package, self_package, IsImported}
use Rattle.glk_obj.specs.Positive.{HasIndexTables, IsTarget, IsFieldInside}
use Rattle.glk_obj.specs.Records.{SymbolRef, ref_at, text_at, same_ref, ref_name_from, symbols, definitions, symbol_at, symbol_offset, data_index, data_length, data_at, reloc_index, reloc_count, reloc_offset, reloc_at, aux_index, aux_count, aux_offset, aux_at, ref_flags_at, ref_name_offset, hash_length, hash_offset, hash_at}
use Rattle.glk_obj.specs.References.{PassesEnd, in_range, IsOutOfRangeAt}
use Rattle.glk_obj.specs.Rules.{IsContentKind, HasContent, HasExcessData, IsFieldOutside, IsAlign, IsOddlyAligned}
use Rattle.glk_obj.proofs.BlockOrder.{record_inside}
use Rattle.glk_obj.proofs.Intact.{layout}
use Rattle.glk_obj.proofs.Objects.{intact}
use Rattle.glk_obj.proofs.RelocOffsets.{reloc_inside, aux_inside, relocs_fill, auxes_fill, data_fill, data_room}
use Rattle.glk_obj.proofs.SymbolOffsets.{symbols_fill, symbol_is_field}
use Rattle.glk_obj.proofs.TableOffsets.{tables}

-- its blocks are laid out, and its tables are indices of the definitions
pub object_layout : (b : List ℕ) → IsObject b → HasLayout b
object_layout b object = layout b 16 (omega arith) (intact b object)

pub object_tables : (b : List ℕ) → IsObject b → HasIndexTables b
object_tables b object = tables b (record { no = λ rule n small broken. (intact b object).no rule n (omega arith) broken })

-- The strings.

-- of a block whose records begin with a string
pub string_inside : (b : List ℕ) (t k : ℕ) → IsObject b → t ≤ nonpkgref → k < count b t → PassesEnd b (offset_of b t + width_of t * k) → ⊥
unfolding HasField shift_of field_offset
string_inside b t k object low index passes =
    let none : shift_of Text t ≡ 0 = grind arith in
    object.strings_inside (offset_of b t + width_of t * k) (record {
      is_field = record { block = t; among = inl low; index = k; inside = index; at = omega arith };
      bad = passes;
    })

-- of symbol i
pub name_inside : (b : List ℕ) (i : ℕ) → IsObject b → HasLayout b → i < symbols b → PassesEnd b (symbol_offset b i) → ⊥
name_inside b i object layout index passes = object.strings_inside (symbol_offset b i) (record { is_field = symbol_is_field b i layout index; bad = passes })

-- of a record of RefName
pub ref_name_inside : (b : List ℕ) (k : ℕ) → IsObject b → k < count b ref_name → PassesEnd b (ref_name_offset b k + 8) → ⊥
unfolding HasField shift_of field_offset width_of
ref_name_inside b k object index passes =
    object.strings_inside (ref_name_offset b k + 8) (record {
      is_field = record { block = ref_name; among = inr refl; index = k; inside = index; at = omega arith };
      bad = passes;
    })

pub ref_name_room : (b : List ℕ) (k : ℕ) → HasLayout b → k < count b ref_name → ref_name_offset b k + ref_name_width ≤ length b
unfolding width_of
ref_name_room b k layout index =
    let room : offset_of b ref_name + width_of ref_name * k + width_of ref_name ≤ length b = record_inside b ref_name k layout (omega arith) (λ h. omega arith) index in
    omega arith

-- The references.

-- of two cases, the first one is skipped
skip : (n k : ℕ) (x y : Bool) → (n ≡ k → ⊥) → cond (n == k) x y ≡ y
skip n k x y other = rw (ne_eqb n k other) refl

in_imported : (b : List ℕ) (pkg index : ℕ) → IsImported pkg → in_range b (record { pkg = pkg; sym = index }) ≡ nat_lt pkg (count b pkg_idx)
unfolding in_range
in_imported b pkg index imported =
    skip pkg nil_package _ _ (λ e. elim imported [ inl low ↦ omega (arith, low.0) | inr high ↦ omega arith ])
    ∙ skip pkg none_package _ _ (λ e. elim imported [ inl low ↦ omega (arith, low.1) | inr high ↦ omega arith ])
    ∙ skip pkg hashed64_package _ _ (λ e. elim imported [ inl low ↦ omega (arith, low.1) | inr high ↦ omega arith ])
    ∙ skip pkg hashed_package _ _ (λ e. elim imported [ inl low ↦ omega (arith, low.1) | inr high ↦ omega arith ])
    ∙ skip pkg builtin_package _ _ (λ e. elim imported [ inl low ↦ omega (arith, low.1) | inr high ↦ omega arith ])
    ∙ skip pkg self_package _ _ (λ e. elim imported [ inl low ↦ omega (arith, low.1) | inr high ↦ omega arith ])

-- a reference in range, by what it is a reference to
pub target_of_range : (b : List ℕ) (pkg index : ℕ) → in_range b (record { pkg = pkg; sym = index }) ≡ true → IsTarget b (record { pkg = pkg; sym = index })
unfolding in_range
target_of_range b pkg index fine =
    let P : ℕ → Type 0 = λ n. in_range b (record { pkg = n; sym = index }) ≡ true in
    record {
      nil = λ e. eqb-true _ _ (subst P e fine);
      without_package = λ e. ltb-true _ _ (subst P e fine);
      hashed64 = λ e. ltb-true _ _ (subst P e fine);
      hashed = λ e. ltb-true _ _ (subst P e fine);
      own = λ e. ltb-true _ _ (subst P e fine);
      imported = λ imported. ltb-true _ _ (sym (in_imported b pkg index imported) ∙ fine);
    }

-- a reference of a record
pub target_in_range : (b : List ℕ) (p : ℕ) → IsObject b → IsFieldOffset b Target p → IsTarget b (ref_at b p)
unfolding IsOutOfRangeAt
target_in_range b p object is_field =
    target_of_range b (number_at 4 b p) (number_at 4 b (p + 4))
    (true_from_ne_false _ (λ out. object.targets_in_range p (record { is_field = is_field; bad = out })))

-- the target of relocation k of definition i, of its aux k, and of a record of RefFlags
pub reloc_target : (b : List ℕ) (i k : ℕ) → IsObject b → HasIndexTables b → i < definitions b → k < reloc_count b i → IsTarget b (reloc_at b i k).target
unfolding HasField shift_of field_offset width_of
reloc_target b i k object tables definition index =
    target_in_range b (reloc_offset b i k + 15) object (record {
      block = reloc;
      among = inl (inr refl);
      index = reloc_index b i + k;
      inside = reloc_inside b i k tables definition index;
      at = omega arith;
    })

pub aux_target : (b : List ℕ) (i k : ℕ) → IsObject b → HasIndexTables b → i < definitions b → k < aux_count b i → IsTarget b (aux_at b i k).target
unfolding HasField shift_of field_offset width_of
aux_target b i k object tables definition index =
    target_in_range b (aux_offset b i k + 1) object (record {
      block = aux;
      among = inr (inl refl);
      index = aux_index b i + k;
      inside = aux_inside b i k tables definition index;
      at = omega arith;
    })

pub ref_flags_target : (b : List ℕ) (k : ℕ) → IsObject b → k < count b ref_flags → IsTarget b (ref_flags_at b k).target
unfolding HasField shift_of field_offset width_of
ref_flags_target b k object index =
    target_in_range b (offset_of b ref_flags + ref_flags_width * k) object (record {
      block = ref_flags;
      among = inl (inl refl);
      index = k;
      inside = index;
      at = omega arith;
    })

-- The search for a name among the records of RefName: at a record of r it ends, at another it goes on.
pub ref_name_here : (b : List ℕ) (r : SymbolRef) (k n : ℕ) → k < n → same_ref (ref_at b (ref_name_offset b k)) r ≡ true → ref_name_from b r k (n - k) ≡ Some (text_at b (ref_name_offset b k + 8))
ref_name_here b r k n below same =
    let e : n - k ≡ suc (n - k - 1) = omega arith in rw (e, same) refl

pub ref_name_next : (b : List ℕ) (r : SymbolRef) (k n : ℕ) → k < n → same_ref (ref_at b (ref_name_offset b k)) r ≡ false → ref_name_from b r k (n - k) ≡ ref_name_from b r (k + 1) (n - (k + 1))
ref_name_next b r k n below other =
    let e : n - k ≡ suc (n - (k + 1)) = omega arith in rw (e, other) refl

-- The data, the relocations and the auxes of a definition.

-- its data are as long as its two entries are apart
pub data_measures : (b : List ℕ) (i : ℕ) → IsObject b → i < definitions b → length (data_at b i) ≡ data_length b i
data_measures b i object definition =
    let room : offset_of b contents + data_index b (i + 1) ≤ length b = data_room b i (object_layout b object) (object_tables b object) definition in
    omega (arith, length-take {A = ℕ}, length-drop {A = ℕ})

-- and no longer than its size, where it has content
pub data_within : (b : List ℕ) (i : ℕ) → IsObject b → i < definitions b → IsContentKind (symbol_at b i).kind → length (data_at b i) ≤ (symbol_at b i).size
unfolding HasContent HasExcessData
data_within b i object definition content =
    let long : length (data_at b i) ≡ data_length b i = data_measures b i object definition in
    elim (cases_lt (symbol_at b i).size (data_length b i)) [
      | inl excess ↦ absurd (object.data_within_size (symbol_offset b i) (record { index = i; inside = definition; at = refl; bad = (content, excess) }))
      | inr fine ↦ omega (arith, long, fine)
    ]

-- a relocation of a definition with content is not below it, and ends inside its size
pub reloc_within : (b : List ℕ) (i k : ℕ) → IsObject b → i < definitions b → k < reloc_count b i → IsContentKind (symbol_at b i).kind → IsFieldInside (symbol_at b i) (reloc_at b i k)
unfolding HasContent IsFieldOutside
reloc_within b i k object definition index content =
    let inside : IsFieldOutside b i k → ⊥ = λ outside. object.relocs_within_size (reloc_offset b i k) (record {
      group = i;
      among = definition;
      fault = record { index = k; inside = index; at = refl; bad = (content, outside) };
    }) in
    let low : number_at 4 b (reloc_offset b i k) < 2 ^ 31 = elim (cases_lt (number_at 4 b (reloc_offset b i k)) (2 ^ 31)) [
      | inl low ↦ low
      | inr high ↦ absurd (inside (inl high))
    ] in
    let ends : number_at 4 b (reloc_offset b i k) + (reloc_at b i k).size ≤ (symbol_at b i).size = elim (cases_lt (symbol_at b i).size (number_at 4 b (reloc_offset b i k) + (reloc_at b i k).size)) [
      | inl past ↦ absurd (inside (inr past))
      | inr fine ↦ fine
    ] in
    let bits : cast_unsigned w32 (reloc_at b i k).off ≡ number_at 4 b (reloc_offset b i k) = of_z-to_z w32 (number_at 4 b (reloc_offset b i k)) (omega (arith, low)) in
    let value : (reloc_at b i k).off ≡ pos (number_at 4 b (reloc_offset b i k)) = to_z_pos w32 (number_at 4 b (reloc_offset b i k)) low in
    record { from = rw bits value; to = rw bits ends }

-- The alignment of a symbol with content, definition or reference, is 0 or a power of two up to 4096.

-- one of the first n powers of two, or none
power_or_not : (a n : ℕ) → ((e : ℕ) × (e < n) × (a ≡ 2 ^ e)) ⊎ ((e : ℕ) → e < n → a ≢ 2 ^ e)
power_or_not a zero = inr (λ e below same. omega (arith, below))
power_or_not a (suc n) = elim (power_or_not a n) [
  | inl found ↦ inl (found.0, omega (arith, found.1), found.2)
  | inr none ↦ elim (cases_eq a (2 ^ n)) [
    | inl same ↦ inl (n, omega arith, same)
    | inr other ↦ inr (λ e below same. elim (cases_lt e n) [
      | inl less ↦ none e less same
      | inr more ↦
          let last : e ≡ n = omega arith in
          let P : ℕ → Type 0 = λ k. a ≡ 2 ^ k in other (subst P last same)
    ])
  ]
]

pub is_aligned : (b : List ℕ) (i : ℕ) → IsObject b → i < symbols b → IsContentKind (symbol_at b i).kind → IsAlign (symbol_at b i).align
unfolding HasContent IsOddlyAligned
is_aligned b i object index content =
    let odd : (¬ IsAlign (symbol_at b i).align) → ⊥ = λ odd. object.symbols_aligned (symbol_offset b i) (record { index = i; inside = index; at = refl; bad = (content, odd) }) in
    elim (cases_eq (symbol_at b i).align 0) [
      | inl none ↦ inl none
      | inr some ↦ elim (power_or_not (symbol_at b i).align 13) [
        | inl power ↦ inr (power.0, omega (arith, power.1), power.2)
        | inr other ↦ absurd (odd (λ align. elim align [ inl none ↦ some none | inr power ↦ other power.0 (omega (arith, power.1)) power.2 ]))
      ]
    ]

-- The ranges of the definitions.

pub data_rises : (b : List ℕ) (i : ℕ) → IsObject b → i < definitions b → data_index b i ≤ data_index b (i + 1)
data_rises b i object definition = (object_tables b object).rises data_idx i (omega arith, omega arith) definition

pub reloc_rises : (b : List ℕ) (i : ℕ) → IsObject b → i < definitions b → reloc_index b i ≤ reloc_index b (i + 1)
reloc_rises b i object definition = (object_tables b object).rises reloc_idx i (omega arith, omega arith) definition

pub aux_rises : (b : List ℕ) (i : ℕ) → IsObject b → i < definitions b → aux_index b i ≤ aux_index b (i + 1)
aux_rises b i object definition = (object_tables b object).rises aux_idx i (omega arith, omega arith) definition

-- The numbers of records, by the object's length.

pub data_fits : (b : List ℕ) → IsObject b → data_index b (definitions b) ≤ length b
data_fits b object =
    let within : data_index b (definitions b) ≤ count b contents = (object_tables b object).within data_idx (definitions b) (omega arith, omega arith) (omega arith) in
    let fill : offset_of b contents + count b contents ≤ length b = data_fill b (object_layout b object) in
    omega arith

pub relocs_fit : (b : List ℕ) → IsObject b → reloc_index b (definitions b) ≤ count b reloc
relocs_fit b object = (object_tables b object).within reloc_idx (definitions b) (omega arith, omega arith) (omega arith)

pub auxes_fit : (b : List ℕ) → IsObject b → aux_index b (definitions b) ≤ count b aux
auxes_fit b object = (object_tables b object).within aux_idx (definitions b) (omega arith, omega arith) (omega arith)

pub records_within : (b : List ℕ) (k : ℕ) → IsObject b → k < end → k ≢ hash → width_of k * count b k ≤ length b
records_within b k object inside other =
    let layout : HasLayout b = object_layout b object in
    let whole : offset_of b (k + 1) ≡ offset_of b k + width_of k * count b k = layout.whole k inside other in
    let within : offset_of b (k + 1) ≤ length b = layout.within (k + 1) (omega arith) in
    omega arith

pub symbols_within : (b : List ℕ) → IsObject b → symbol_width * symbols b ≤ length b
symbols_within b object =
    let layout : HasLayout b = object_layout b object in
    let fill : offset_of b ref_flags ≡ offset_of b symdef + symbol_width * symbols b = symbols_fill b layout in
    let within : offset_of b ref_flags ≤ length b = layout.within ref_flags (omega arith) in
    omega arith

pub relocs_within : (b : List ℕ) → IsObject b → reloc_width * count b reloc ≤ length b
relocs_within b object = let fill : offset_of b reloc + reloc_width * count b reloc ≤ length b = relocs_fill b (object_layout b object) in omega arith

pub auxes_within : (b : List ℕ) → IsObject b → aux_width * count b aux ≤ length b
auxes_within b object = let fill : offset_of b aux + aux_width * count b aux ≤ length b = auxes_fill b (object_layout b object) in omega arith

-- The long hashes have one length from 8 to 64, and fill their block.

-- the second one of a table of two, where the first is skipped
second : (n k : ℕ) (A B : Type 0) → n ≢ k → MatchBool (n == k) A B → B
second n k A B other holds =
    let P : Bool → Type 0 = λ t. MatchBool t A B in subst P (ne_eqb n k other) holds

-- a number below n, 8 at least, by which c is multiplied to x, or none
factor_or_not : (x c n : ℕ) → ((k : ℕ) × (8 ≤ k) × (k < n) × (x ≡ k * c)) ⊎ ((k : ℕ) → 8 ≤ k → k < n → x ≢ k * c)
factor_or_not x c zero = inr (λ k low below same. omega (arith, below))
factor_or_not x c (suc n) = elim (factor_or_not x c n) [
  | inl found ↦ inl (found.0, found.1, omega (arith, found.2), found.3)
  | inr none ↦ elim (cases_lt n 8) [
    | inl small ↦ inr (λ k low below same. omega (arith, low, below, small))
    | inr enough ↦ elim (cases_eq x (n * c)) [
      | inl same ↦ inl (n, enough, omega arith, same)
      | inr other ↦ inr (λ k low below same. elim (cases_lt k n) [
        | inl less ↦ none k low less same
        | inr more ↦
            let last : k ≡ n = omega arith in
            let P : ℕ → Type 0 = λ j. x ≡ j * c in other (subst P last same)
      ])
    ]
  ]
]

pub hashes_fill : (b : List ℕ) → IsObject b → 0 < count b hasheddef → (8 ≤ hash_length b) × (hash_length b ≤ 64) × (extent_of b hash ≡ hash_length b * count b hasheddef)
hashes_fill b object some = elim (factor_or_not (extent_of b hash) (count b hasheddef) 65) [
  | inl found ↦
      let same : found.0 ≡ hash_length b = rw found.3 (sym (mul-div_cancel found.0 some)) in
      let P : ℕ → Type 0 = λ n. (8 ≤ n) × (n ≤ 64) × (extent_of b hash ≡ n * count b hasheddef) in
      subst P same (found.1, omega (arith, found.2), found.3)
  | inr none ↦ absurd (object.long_hashes_even (header_offset hash) (
    (λ fit.
        let length : (n : ℕ) × (8 ≤ n) × (n ≤ 64) × (extent_of b hash ≡ n * count b hasheddef) = second (count b hasheddef) 0 _ _ (λ e. omega arith) fit in
        none length.0 length.1 (omega (arith, length.2)) length.3),
    refl,
  ))
]

pub hash_measures : (b : List ℕ) (k : ℕ) → IsObject b → k < count b hasheddef → length (hash_at b k) ≡ hash_length b
hash_measures b k object index =
    let layout : HasLayout b = object_layout b object in
    let fill : (8 ≤ hash_length b) × (hash_length b ≤ 64) × (extent_of b hash ≡ hash_length b * count b hasheddef) = hashes_fill b object (omega arith) in
    let room : hash_length b * (k + 1) ≤ hash_length b * count b hasheddef = mul-le-mul_left (hash_length b) (omega arith) in
    let order : offset_of b hash ≤ offset_of b reloc_idx = layout.ordered hash (omega arith) in
    let within : offset_of b reloc_idx ≤ length b = layout.within reloc_idx (omega arith) in
    let all : hash_offset b k + hash_length b ≤ length b = omega (arith, fill.2) in
    omega (arith, length-take {A = ℕ}, length-drop {A = ℕ})
