-- A description by its parts.
use Rattle.std.proofs.Common.{◌≡◌, ◌∙◌, ℕ, zero, suc, ◌+◌, ◌-◌, List, [], ◌∷◌, refl, ap, arith}
use Rattle.glk_obj.specs.Blocks.{count, autolib, pkg_idx, file, hashed64def, hasheddef, nonpkgdef, nonpkgref, ref_flags, ref_name}
use Rattle.glk_obj.specs.Records.{fingerprint, flags, autolib_at, pkg_at, file_at, ref_flags_at, hash64_at, hash_at, symbol_at}
use Rattle.glk_obj.specs.declared.records.RefFlagsRec.{RefFlagsRec}
use Rattle.glk_objdesc.specs.declared.desc.AutolibDesc.{AutolibDesc}
use Rattle.glk_objdesc.specs.declared.desc.SymDesc.{SymDesc}
use Rattle.glk_objdesc.specs.declared.desc.DefDesc.{DefDesc}
use Rattle.glk_objdesc.specs.declared.desc.RefNameDesc.{RefNameDesc}
use Rattle.glk_objdesc.specs.declared.desc.ObjDesc.{ObjDesc}
use Rattle.glk_objdesc.specs.Described.{each_from, autolib_desc, symbol_desc, ref_flags_desc, def_desc, ref_name_desc, first_hash64, first_hashed, first_ndef, first_ref, description_of}

pub each_same : {X : Type 0} (f g : ℕ → X) (a n : ℕ) → ((k : ℕ) → f k ≡ g k) → each_from f a n ≡ each_from g a n
each_same f g a zero same = refl
each_same {X} f g a (suc n) same = ap (λ (x : X). x ∷ each_from f (a + 1) n) (same a) ∙ ap (λ (xs : List X). g a ∷ xs) (each_same f g (a + 1) n same)

pub same_desc : (f f' : ℕ) (fp fp' : List ℕ) (a a' : List AutolibDesc) (p p' i i' : List (List ℕ)) (d d' h h' g g' n n' : List DefDesc) (r r' : List SymDesc) (rf rf' : List RefFlagsRec) (rn rn' : List RefNameDesc)
    → f ≡ f' → fp ≡ fp' → a ≡ a' → p ≡ p' → i ≡ i' → d ≡ d' → h ≡ h' → g ≡ g' → n ≡ n' → r ≡ r' → rf ≡ rf' → rn ≡ rn'
    → (let x : ObjDesc = record { flags = f; fingerprint = fp; autolib = a; pkgs = p; files = i; defs = d; hash64 = h; hashed = g; ndefs = n; refs = r; ref_flags = rf; ref_names = rn } in x)
    ≡ (let y : ObjDesc = record { flags = f'; fingerprint = fp'; autolib = a'; pkgs = p'; files = i'; defs = d'; hash64 = h'; hashed = g'; ndefs = n'; refs = r'; ref_flags = rf'; ref_names = rn' } in y)
same_desc f f' fp fp' a a' p p' i i' d d' h h' g g' n n' r r' rf rf' rn rn' e1 e2 e3 e4 e5 e6 e7 e8 e9 e10 e11 e12 = cc

-- the blocks of definitions, by the first local index in each
pub described_is : (b : List ℕ) (x : ObjDesc) (cn m64 mh mn : ℕ)
    → x.flags ≡ flags b → x.fingerprint ≡ fingerprint b
    → x.autolib ≡ each_from (λ k. autolib_desc (autolib_at b k)) 0 (count b autolib)
    → x.pkgs ≡ each_from (pkg_at b) 1 (count b pkg_idx - 1)
    → x.files ≡ each_from (file_at b) 0 (count b file)
    → x.defs ≡ each_from (λ k. def_desc b (0 + k) []) 0 m64
    → x.hash64 ≡ each_from (λ k. def_desc b (m64 + k) (hash64_at b k)) 0 (count b hashed64def)
    → x.hashed ≡ each_from (λ k. def_desc b (mh + k) (hash_at b k)) 0 (count b hasheddef)
    → x.ndefs ≡ each_from (λ k. def_desc b (mn + k) []) 0 cn
    → x.refs ≡ each_from (λ k. symbol_desc (symbol_at b (first_ref b + k))) 0 (count b nonpkgref)
    → x.ref_flags ≡ each_from (λ k. ref_flags_desc (ref_flags_at b k)) 0 (count b ref_flags)
    → x.ref_names ≡ each_from (ref_name_desc b) 0 (count b ref_name)
    → m64 ≡ first_hash64 b → mh ≡ first_hashed b → mn ≡ first_ndef b → cn ≡ count b nonpkgdef
    → x ≡ description_of b
unfolding description_of
described_is b x cn m64 mh mn e1 e2 e3 e4 e5 e6 e7 e8 e9 e10 e11 e12 i64 ih ind ic =
    same_desc _ _ _ _ _ _ _ _ _ _ _ _ _ _ _ _ _ _ _ _ _ _ _ _ e1 e2 e3 e4 e5
    (e6 ∙ each_same (λ k. def_desc b (0 + k) []) (λ k. def_desc b k []) 0 m64 (λ k. let z : 0 + k ≡ k = omega arith in ap (λ (j : ℕ). def_desc b j []) z)
    ∙ ap (λ (j : ℕ). each_from (λ k. def_desc b k []) 0 j) i64)
    (e7 ∙ ap (λ (m : ℕ). each_from (λ k. def_desc b (m + k) (hash64_at b k)) 0 (count b hashed64def)) i64)
    (e8 ∙ ap (λ (m : ℕ). each_from (λ k. def_desc b (m + k) (hash_at b k)) 0 (count b hasheddef)) ih)
    (e9 ∙ ap (λ (m : ℕ). each_from (λ k. def_desc b (m + k) []) 0 cn) ind ∙ ap (λ (m : ℕ). each_from (λ k. def_desc b (first_ndef b + k) []) 0 m) ic)
    e10 e11 e12
