-- Pieces that are written one behind the other, as one list.
use Rattle.std.proofs.Common.{◌≡◌, ℕ, ◌∙◌, List, [], ◌∷◌, ◌++◌, refl, sym, ap, map, append_assoc}
use Rattle.std.specs.List.{flat_map}
use Rattle.std.proofs.lemmas.List.{append-nil}
use Rattle.glk_objtext.specs.Text.{after_space, whole_line, texts, text_of, lines_of, def_lines}
use Rattle.glk_objdesc.specs.declared.desc.ObjDesc.{ObjDesc}
use Rattle.glk_objtext.specs.declared.line.DefBlock.TheVariants.{Symdef, Hashed64def, Hasheddef, Nonpkgdef}
use Rattle.glk_objtext.specs.declared.line.Line.TheVariants.{Header, Import, Package, Source, Reference, Flags, Named}
use Rattle.glk_objtext.specs.declared.line.Line.{Line}

pub texts-append : (xs ys : List Line) → texts (xs ++ ys) ≡ texts xs ++ texts ys
texts-append [] ys = refl
texts-append (x ∷ xs) ys = ap (λ (t : List ℕ). whole_line x ++ t) (texts-append xs ys) ∙ sym (append_assoc (whole_line x) (texts xs) (texts ys))

-- one more field
one : (out f : List ℕ) (fs : List (List ℕ)) → (out ++ after_space f) ++ flat_map after_space fs ≡ out ++ flat_map after_space (f ∷ fs)
one out f fs = append_assoc out (after_space f) (flat_map after_space fs)

pub seven_fields : (out a b c d e f g : List ℕ) → ((((((out ++ after_space a) ++ after_space b) ++ after_space c) ++ after_space d) ++ after_space e) ++ after_space f) ++ after_space g ≡ out ++ flat_map after_space (a ∷ b ∷ c ∷ d ∷ e ∷ f ∷ g ∷ [])
seven_fields out a b c d e f g =
    sym (append-nil (((((((out ++ after_space a) ++ after_space b) ++ after_space c) ++ after_space d) ++ after_space e) ++ after_space f) ++ after_space g))
    ∙ one ((((((out ++ after_space a) ++ after_space b) ++ after_space c) ++ after_space d) ++ after_space e) ++ after_space f) g []
    ∙ one (((((out ++ after_space a) ++ after_space b) ++ after_space c) ++ after_space d) ++ after_space e) f (g ∷ [])
    ∙ one ((((out ++ after_space a) ++ after_space b) ++ after_space c) ++ after_space d) e (f ∷ g ∷ [])
    ∙ one (((out ++ after_space a) ++ after_space b) ++ after_space c) d (e ∷ f ∷ g ∷ [])
    ∙ one ((out ++ after_space a) ++ after_space b) c (d ∷ e ∷ f ∷ g ∷ [])
    ∙ one (out ++ after_space a) b (c ∷ d ∷ e ∷ f ∷ g ∷ [])
    ∙ one out a (b ∷ c ∷ d ∷ e ∷ f ∷ g ∷ [])

five_fields : (out a b c d e : List ℕ) → ((((out ++ after_space a) ++ after_space b) ++ after_space c) ++ after_space d) ++ after_space e ≡ out ++ flat_map after_space (a ∷ b ∷ c ∷ d ∷ e ∷ [])
five_fields out a b c d e =
    sym (append-nil (((((out ++ after_space a) ++ after_space b) ++ after_space c) ++ after_space d) ++ after_space e))
    ∙ one ((((out ++ after_space a) ++ after_space b) ++ after_space c) ++ after_space d) e []
    ∙ one (((out ++ after_space a) ++ after_space b) ++ after_space c) d (e ∷ [])
    ∙ one ((out ++ after_space a) ++ after_space b) c (d ∷ e ∷ [])
    ∙ one (out ++ after_space a) b (c ∷ d ∷ e ∷ [])
    ∙ one out a (b ∷ c ∷ d ∷ e ∷ [])

pub five_field_line : (out word end a b c d e : List ℕ) → ((((((out ++ word) ++ after_space a) ++ after_space b) ++ after_space c) ++ after_space d) ++ after_space e) ++ end ≡ out ++ ((word ++ flat_map after_space (a ∷ b ∷ c ∷ d ∷ e ∷ [])) ++ end)
five_field_line out word end a b c d e =
    ap (λ (t : List ℕ). t ++ end) (five_fields (out ++ word) a b c d e ∙ append_assoc out word (flat_map after_space (a ∷ b ∷ c ∷ d ∷ e ∷ [])))
    ∙ append_assoc out (word ++ flat_map after_space (a ∷ b ∷ c ∷ d ∷ e ∷ [])) end

-- one more list of lines
pub more_lines : (out : List ℕ) (xs ys : List Line) → (out ++ texts xs) ++ texts ys ≡ out ++ texts (xs ++ ys)
more_lines out xs ys = append_assoc out (texts xs) (texts ys) ∙ ap (λ (t : List ℕ). out ++ t) (sym (texts-append xs ys))

pub ten_lists : (out : List ℕ) (a b c d e f g h i j : List Line)
    → (((((((((out ++ texts a) ++ texts b) ++ texts c) ++ texts d) ++ texts e) ++ texts f) ++ texts g) ++ texts h) ++ texts i) ++ texts j
    ≡ out ++ texts (a ++ (b ++ (c ++ (d ++ (e ++ (f ++ (g ++ (h ++ (i ++ j)))))))))
ten_lists out a b c d e f g h i j =
    more_lines ((((((((out ++ texts a) ++ texts b) ++ texts c) ++ texts d) ++ texts e) ++ texts f) ++ texts g) ++ texts h) i j
    ∙ more_lines (((((((out ++ texts a) ++ texts b) ++ texts c) ++ texts d) ++ texts e) ++ texts f) ++ texts g) h (i ++ j)
    ∙ more_lines ((((((out ++ texts a) ++ texts b) ++ texts c) ++ texts d) ++ texts e) ++ texts f) g (h ++ (i ++ j))
    ∙ more_lines (((((out ++ texts a) ++ texts b) ++ texts c) ++ texts d) ++ texts e) f (g ++ (h ++ (i ++ j)))
    ∙ more_lines ((((out ++ texts a) ++ texts b) ++ texts c) ++ texts d) e (f ++ (g ++ (h ++ (i ++ j))))
    ∙ more_lines (((out ++ texts a) ++ texts b) ++ texts c) d (e ++ (f ++ (g ++ (h ++ (i ++ j)))))
    ∙ more_lines ((out ++ texts a) ++ texts b) c (d ++ (e ++ (f ++ (g ++ (h ++ (i ++ j))))))
    ∙ more_lines (out ++ texts a) b (c ++ (d ++ (e ++ (f ++ (g ++ (h ++ (i ++ j)))))))
    ∙ more_lines out a (b ++ (c ++ (d ++ (e ++ (f ++ (g ++ (h ++ (i ++ j))))))))

-- the text of a description, list by list
pub text_joined : (d : ObjDesc)
    → (((((((((([] ++ whole_line (Header d.flags d.fingerprint)) ++ texts (map Import d.autolib)) ++ texts (map Package d.pkgs)) ++ texts (map Source d.files))
    ++ texts (flat_map (def_lines Symdef) d.defs)) ++ texts (flat_map (def_lines Hashed64def) d.hash64)) ++ texts (flat_map (def_lines Hasheddef) d.hashed)) ++ texts (flat_map (def_lines Nonpkgdef) d.ndefs))
    ++ texts (map Reference d.refs)) ++ texts (map Flags d.ref_flags)) ++ texts (map Named d.ref_names) ≡ text_of d
unfolding text_of lines_of
text_joined d = ten_lists (whole_line (Header d.flags d.fingerprint)) (map Import d.autolib) (map Package d.pkgs) (map Source d.files)
    (flat_map (def_lines Symdef) d.defs) (flat_map (def_lines Hashed64def) d.hash64) (flat_map (def_lines Hasheddef) d.hashed) (flat_map (def_lines Nonpkgdef) d.ndefs)
    (map Reference d.refs) (map Flags d.ref_flags) (map Named d.ref_names)
