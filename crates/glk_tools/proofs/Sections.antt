-- The text of a package file.
use Rattle.std.proofs.Common.{◌≡◌, ◌<◌, ◌+◌, ◌++◌, ℕ, List, [], ◌∷◌, length, take, get_or, codes, Ok, Err, refl, sym, ap, ◌∙◌, add-one, append_assoc}
use Rattle.std.proofs.Math.Seq.{take-suc}
use Rattle.std.proofs.lemmas.List.{append-nil}
use Rattle.glk_package.specs.ObjectRules.{any_rules}
use Rattle.glk_package.specs.ObjectEntry.{ObjectEntry}
use Rattle.glk_package.proofs.Once.{one_package}
use Rattle.glk_objdesc.specs.Described.{description_of}
use Rattle.glk_objtext.specs.Text.{text_of}
use Rattle.glk_tools.specs.PackageText.{section_of, sections_of, member_name, IsOneText}

sections_append : (xs ys : List ObjectEntry) → sections_of (xs ++ ys) ≡ sections_of xs ++ sections_of ys
unfolding sections_of
sections_append [] ys = refl
sections_append (x ∷ xs) ys = rw (sections_append xs ys) (sym (append_assoc (section_of x) (sections_of xs) (sections_of ys)))

sections_one : (x : ObjectEntry) → sections_of (x ∷ []) ≡ section_of x
unfolding sections_of
sections_one x = append-nil (section_of x)

pub sections_more : (xs : List ObjectEntry) (n : ℕ) (d : ObjectEntry) → n < length xs
    → sections_of (take (n + 1) xs) ≡ sections_of (take n xs) ++ section_of (get_or xs n d)
sections_more xs n d inside =
    let cut : take (n + 1) xs ≡ take n xs ++ get_or xs n d ∷ [] = rw (add-one n) (take-suc xs n d inside) in
    rw cut (sections_append (take n xs) (get_or xs n d ∷ []) ∙ ap (λ s. sections_of (take n xs) ++ s) (sections_one (get_or xs n d)))

pub no_sections : sections_of [] ≡ []
unfolding sections_of
no_sections = refl

-- the pieces of a section, one after the other
pub pushed : (object : ObjectEntry) (before first name line all body : List ℕ)
    → first ≡ before ++ codes "# member " → name ≡ first ++ member_name object.name → line ≡ name ++ codes "\n"
    → body ≡ text_of (description_of object.goobj) → all ≡ line ++ body → all ≡ before ++ section_of object
unfolding section_of
pushed object before first name line all body a b c d e = rw (e, d, c, b, a) (simp append_assoc refl)

pub one_text : IsOneText
one_text file (Ok a) (Ok b) x y =
    let e = one_package any_rules file (Ok x.0) (Ok y.0) x.1 y.1 in
    let same : x.0 ≡ y.0 = cc in
    ap (λ t. Ok t) (x.2 ∙ ap sections_of same ∙ sym y.2)
one_text file (Ok a) (Err b) x y = let e = one_package any_rules file (Ok x.0) (Err b) x.1 y in cc
one_text file (Err a) (Ok b) x y = let e = one_package any_rules file (Err a) (Ok y.0) x y.1 in cc
one_text file (Err a) (Err b) x y = let e = one_package any_rules file (Err a) (Err b) x y in cc
