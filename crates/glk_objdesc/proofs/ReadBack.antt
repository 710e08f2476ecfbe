-- Records that are written are read back.
use Rattle.std.proofs.Common.{◌≡◌, ◌∙◌, ℕ, suc, ◌+◌, ◌*◌, ◌^◌, ◌<◌, List, [], ◌∷◌, length, All, refl, ap, arith}
use Rattle.std.specs.Prelude.{slice_range, ℤ}
use Rattle.std.specs.List.{flat_map}
use Rattle.std.specs.Int.{cast_signed, cast_unsigned, w32, w64}
use Rattle.std.proofs.lemmas.Int.{to_z-of_z}
use Rattle.std.proofs.Math.Facts.{Fits-of_z}
use Rattle.glk_base.specs.Bytes.{number_at}
use Rattle.glk_obj.specs.Records.{text_at, ref_at, symbol_from, reloc_from, aux_from, autolib_from, ref_flags_from}
use Rattle.glk_obj.specs.declared.records.SymRef.{SymRef}
use Rattle.glk_obj.specs.declared.records.RelocRec.{RelocRec}
use Rattle.glk_obj.specs.declared.records.AuxRec.{AuxRec}
use Rattle.glk_obj.specs.declared.records.RefFlagsRec.{RefFlagsRec}
use Rattle.glk_objdesc.specs.declared.desc.AutolibDesc.{AutolibDesc}
use Rattle.glk_objdesc.specs.declared.desc.SymDesc.{SymDesc}
use Rattle.glk_objdesc.specs.declared.desc.RefNameDesc.{RefNameDesc}
use Rattle.glk_base.specs.Fields.{byte, u16, u32, u64}
use Rattle.glk_objdesc.specs.Canonical.{text_offset, autolib_bytes, name_bytes, symbol_bytes, ref_flags_bytes, reloc_bytes, aux_bytes, ref_name_bytes}
use Rattle.glk_objdesc.specs.Described.{each_from, ref_desc, autolib_desc, symbol_desc, reloc_desc, aux_desc, ref_flags_desc}
use Rattle.glk_objdesc.specs.Typed.{IsTypedPackage, IsTypedSymbol, IsTypedReloc, IsTypedAux, IsTypedFlags, IsTypedName}
use Rattle.glk_objdesc.proofs.SizeLemmas.{length_u32s}
use Rattle.glk_base.specs.BytesAt.{IsAt}
use Rattle.glk_base.proofs.BytesAt.{is_at_same, is_at_first, is_at_second, field_read, byte_read, range_read}
use Rattle.glk_objdesc.proofs.Placed.{IsText}

-- ---- the fields of records
pub text_is : (b : List ℕ) (pool : List (List ℕ)) (q : List ℕ) (at : ℕ) → IsText b pool q → number_at 4 b at ≡ length q → number_at 4 b (at + 4) ≡ text_offset pool q → text_at b at ≡ q
unfolding text_at
text_is b pool q at text size offset =
    ap (λ n. slice_range b (number_at 4 b (at + 4)) (number_at 4 b (at + 4) + n)) size ∙ ap (λ p. slice_range b p (p + length q)) offset ∙ text.bytes

same_ref : (a b : ℕ) (r : SymRef) → a ≡ r.pkg → b ≡ r.sym → (let x : SymRef = record { pkg = a; sym = b } in x) ≡ r
same_ref a b r e f = ap (λ p. let x : SymRef = record { pkg = p; sym = b } in x) e ∙ ap (λ s. let x : SymRef = record { pkg = r.pkg; sym = s } in x) f

same_symbol : (n n' : List ℕ) (a a' k k' f f' g g' s s' l l' : ℕ) → n ≡ n' → a ≡ a' → k ≡ k' → f ≡ f' → g ≡ g' → s ≡ s' → l ≡ l'
    → (let x : SymDesc = record { name = n; abi = a; kind = k; flag = f; flag2 = g; size = s; align = l } in x)
    ≡ (let y : SymDesc = record { name = n'; abi = a'; kind = k'; flag = f'; flag2 = g'; size = s'; align = l' } in y)
same_symbol n n' a a' k k' f f' g g' s s' l l' e1 e2 e3 e4 e5 e6 e7 = cc

same_reloc : (o o' a a' : ℤ) (s s' k k' : ℕ) (t t' : SymRef) → o ≡ o' → s ≡ s' → k ≡ k' → a ≡ a' → t ≡ t'
    → (let x : RelocRec = record { off = o; size = s; kind = k; add = a; target = t } in x) ≡ (let y : RelocRec = record { off = o'; size = s'; kind = k'; add = a'; target = t' } in y)
same_reloc o o' a a' s s' k k' t t' e1 e2 e3 e4 e5 = cc

same_aux : (k k' : ℕ) (t t' : SymRef) → k ≡ k' → t ≡ t' → (let x : AuxRec = record { kind = k; target = t } in x) ≡ (let y : AuxRec = record { kind = k'; target = t' } in y)
same_aux k k' t t' e f = cc

same_flags : (t t' : SymRef) (f f' g g' : ℕ) → t ≡ t' → f ≡ f' → g ≡ g' → (let x : RefFlagsRec = record { target = t; flag = f; flag2 = g } in x) ≡ (let y : RefFlagsRec = record { target = t'; flag = f'; flag2 = g' } in y)
same_flags t t' f f' g g' e1 e2 e3 = cc

same_package : (p p' f f' : List ℕ) → p ≡ p' → f ≡ f' → (let x : AutolibDesc = record { path = p; fingerprint = f } in x) ≡ (let y : AutolibDesc = record { path = p'; fingerprint = f' } in y)
same_package p p' f f' e1 e2 = cc

same_name : (t t' : SymRef) (n n' : List ℕ) → t ≡ t' → n ≡ n' → (let x : RefNameDesc = record { target = t; name = n } in x) ≡ (let y : RefNameDesc = record { target = t'; name = n' } in y)
same_name t t' n n' e1 e2 = cc

-- ---- records
pub name_read : (b : List ℕ) (pool : List (List ℕ)) (at : ℕ) (q : List ℕ) → IsText b pool q → IsAt b at (name_bytes pool q) → text_at b at ≡ q
name_read b pool at q text s =
    text_is b pool q at text
    (field_read [] _ 4 (length q) b at at s (omega arith) (omega (arith, text.short)))
    (field_read (u32 (length q) ∷ []) _ 4 (text_offset pool q) b at (at + 4) s (omega arith) (omega (arith, text.offset)))

pub package_read : (b : List ℕ) (pool : List (List ℕ)) (at : ℕ) (a : AutolibDesc) → IsTypedPackage a → IsText b pool a.path → IsAt b at (autolib_bytes pool a) → autolib_desc (autolib_from b at) ≡ a
package_read b pool at a typed text s =
    let size : length (name_bytes pool a.path) ≡ 8 = length_u32s (length a.path ∷ text_offset pool a.path ∷ []) in
    let eight = typed.fingerprint in
    same_package _ _ _ _ (name_read b pool at a.path text (is_at_first b at (name_bytes pool a.path) a.fingerprint s))
    (range_read b (at + 8) (at + 16) a.fingerprint (is_at_same b _ _ _ (is_at_second b at (name_bytes pool a.path) a.fingerprint s) (omega (arith, size))) (omega (arith, eight)))

pub symbol_read : (b : List ℕ) (pool : List (List ℕ)) (at : ℕ) (s : SymDesc) → IsTypedSymbol s → IsText b pool s.name → IsAt b at (symbol_bytes pool s) → symbol_desc (symbol_from b at) ≡ s
symbol_read b pool at s typed text here =
    let size = u32 (length s.name) in
    let offset = u32 (text_offset pool s.name) in
    same_symbol _ _ _ _ _ _ _ _ _ _ _ _ _ _
    (text_is b pool s.name at text
    (field_read [] _ 4 (length s.name) b at at here (omega arith) (omega (arith, text.short)))
    (field_read (size ∷ []) _ 4 (text_offset pool s.name) b at (at + 4) here (omega arith) (omega (arith, text.offset))))
    (field_read (size ∷ offset ∷ []) _ 2 s.abi b at (at + 8) here (omega arith) (omega (arith, typed.abi)))
    (byte_read (size ∷ offset ∷ u16 s.abi ∷ []) _ s.kind b at (at + 10) here (omega arith) (omega (arith, typed.kind)))
    (byte_read (size ∷ offset ∷ u16 s.abi ∷ byte s.kind ∷ []) _ s.flag b at (at + 11) here (omega arith) (omega (arith, typed.flag)))
    (byte_read (size ∷ offset ∷ u16 s.abi ∷ byte s.kind ∷ byte s.flag ∷ []) _ s.flag2 b at (at + 12) here (omega arith) (omega (arith, typed.flag2)))
    (field_read (size ∷ offset ∷ u16 s.abi ∷ byte s.kind ∷ byte s.flag ∷ byte s.flag2 ∷ []) _ 4 s.size b at (at + 13) here (omega arith) (omega (arith, typed.size)))
    (field_read (size ∷ offset ∷ u16 s.abi ∷ byte s.kind ∷ byte s.flag ∷ byte s.flag2 ∷ u32 s.size ∷ []) _ 4 s.align b at (at + 17) here (omega arith) (omega (arith, typed.align)))

pub flags_read : (b : List ℕ) (at : ℕ) (r : RefFlagsRec) → IsTypedFlags r → IsAt b at (ref_flags_bytes r) → ref_flags_desc (ref_flags_from b at) ≡ r
flags_read b at r typed here =
    same_flags _ _ _ _ _ _
    (same_ref _ _ r.target
    (field_read [] _ 4 r.target.pkg b at at here (omega arith) (omega (arith, typed.target.pkg)))
    (field_read (u32 r.target.pkg ∷ []) _ 4 r.target.sym b at (at + 4) here (omega arith) (omega (arith, typed.target.sym))))
    (byte_read (u32 r.target.pkg ∷ u32 r.target.sym ∷ []) _ r.flag b at (at + 8) here (omega arith) (omega (arith, typed.flag)))
    (byte_read (u32 r.target.pkg ∷ u32 r.target.sym ∷ byte r.flag ∷ []) _ r.flag2 b at (at + 9) here (omega arith) (omega (arith, typed.flag2)))

pub aux_read : (b : List ℕ) (at : ℕ) (a : AuxRec) → IsTypedAux a → IsAt b at (aux_bytes a) → aux_desc (aux_from b at) ≡ a
aux_read b at a typed here =
    same_aux _ _ _ _
    (byte_read [] _ a.kind b at at here (omega arith) (omega (arith, typed.kind)))
    (same_ref _ _ a.target
    (field_read (byte a.kind ∷ []) _ 4 a.target.pkg b at (at + 1) here (omega arith) (omega (arith, typed.target.pkg)))
    (field_read (byte a.kind ∷ u32 a.target.pkg ∷ []) _ 4 a.target.sym b at (at + 1 + 4) here (omega arith) (omega (arith, typed.target.sym))))

pub reloc_read : (b : List ℕ) (at : ℕ) (r : RelocRec) → IsTypedReloc r → IsAt b at (reloc_bytes r) → reloc_desc (reloc_from b at) ≡ r
reloc_read b at r typed here =
    let off = cast_unsigned w32 r.off in
    let add = cast_unsigned w64 r.add in
    let small_off : off < 256 ^ 4 = (Fits-of_z typed.off).fits in
    let small_add : add < 256 ^ 8 = (Fits-of_z typed.add).fits in
    let front = u32 off ∷ byte r.size ∷ u16 r.kind ∷ u64 add ∷ [] in
    same_reloc _ _ _ _ _ _ _ _ _ _
    (ap (λ n. cast_signed w32 n) (field_read [] _ 4 off b at at here (omega arith) small_off) ∙ to_z-of_z w32 r.off typed.off)
    (byte_read (u32 off ∷ []) _ r.size b at (at + 4) here (omega arith) (omega (arith, typed.size)))
    (field_read (u32 off ∷ byte r.size ∷ []) _ 2 r.kind b at (at + 5) here (omega arith) (omega (arith, typed.kind)))
    (ap (λ n. cast_signed w64 n) (field_read (u32 off ∷ byte r.size ∷ u16 r.kind ∷ []) _ 8 add b at (at + 7) here (omega arith) small_add) ∙ to_z-of_z w64 r.add typed.add)
    (same_ref _ _ r.target
    (field_read front _ 4 r.target.pkg b at (at + 15) here (omega arith) (omega (arith, typed.target.pkg)))
    (field_read (u32 off ∷ byte r.size ∷ u16 r.kind ∷ u64 add ∷ u32 r.target.pkg ∷ []) _ 4 r.target.sym b at (at + 15 + 4) here (omega arith) (omega (arith, typed.target.sym))))

pub ref_name_read : (b : List ℕ) (pool : List (List ℕ)) (at : ℕ) (r : RefNameDesc) → IsTypedName r → IsText b pool r.name → IsAt b at (ref_name_bytes pool r)
    → (let x : RefNameDesc = record { target = ref_desc (ref_at b at); name = text_at b (at + 8) } in x) ≡ r
ref_name_read b pool at r typed text here =
    let front = u32 r.target.pkg ∷ u32 r.target.sym ∷ [] in
    same_name _ _ _ _
    (same_ref _ _ r.target
    (field_read [] _ 4 r.target.pkg b at at here (omega arith) (omega (arith, typed.target.pkg)))
    (field_read (u32 r.target.pkg ∷ []) _ 4 r.target.sym b at (at + 4) here (omega arith) (omega (arith, typed.target.sym))))
    (text_is b pool r.name (at + 8) text
    (field_read (u32 r.target.pkg ∷ u32 r.target.sym ∷ []) _ 4 (length r.name) b at (at + 8) here (omega arith) (omega (arith, text.short)))
    (field_read (u32 r.target.pkg ∷ u32 r.target.sym ∷ u32 (length r.name) ∷ []) _ 4 (text_offset pool r.name) b at (at + 8 + 4) here (omega arith) (omega (arith, text.offset))))

-- ---- records of one width in a row
pub all_first : {X : Type 0} (P : X → Type 0) (x : X) (xs : List X) → All P (x ∷ xs) → P x
all_first P x xs all = all 0 x (omega arith)

pub all_rest : {X : Type 0} (P : X → Type 0) (x : X) (xs : List X) → All P (x ∷ xs) → All P xs
all_rest P x xs all = λ k d inside. all (suc k) d (omega arith)

pub rows_back : {X : Type 0} (f : X → List ℕ) (w : ℕ) (from : ℕ → X) (P : X → Type 0) (b : List ℕ) (start : ℕ) → ((x : X) → P x → length (f x) ≡ w) → ((at : ℕ) (x : X) → P x → IsAt b at (f x) → from at ≡ x)
    → (xs : List X) (k : ℕ) → All P xs → IsAt b (start + w * k) (flat_map f xs) → each_from (λ j. from (start + w * j)) k (length xs) ≡ xs
rows_back f w from P b start wide read [] k all s = refl
rows_back {X} f w from P b start wide read (x ∷ xs) k all s =
    let good = all_first P x xs all in
    let size = wide x good in
    let here = read (start + w * k) x good (is_at_first b (start + w * k) (f x) (flat_map f xs) s) in
    let more : w * (k + 1) ≡ w * k + w = grind arith in
    let later : IsAt b (start + w * (k + 1)) (flat_map f xs) = is_at_same b _ _ _ (is_at_second b (start + w * k) (f x) (flat_map f xs) s) (omega (arith, size, more)) in
    ap (λ (y : X). y ∷ each_from (λ j. from (start + w * j)) (k + 1) (length xs)) here
    ∙ ap (λ (ys : List X). x ∷ ys) (rows_back f w from P b start wide read xs (k + 1) (all_rest P x xs all) later)
