-- Where functions start, as a list.
use Rattle.std.proofs.Common.{◌≡◌, ◌∙◌, ℕ, ◌+◌, ◌^◌, ◌<◌, List, [], ◌++◌, length, sym, ap, subst, arith}
use Rattle.std.proofs.lemmas.List.{get_or_default}
use Rattle.glk_frames.specs.Buckets.{findfunctab, AreApart as AreFarApart}
use Rattle.glk_frames.proofs.BucketLemmas.{findfunctab_same}
use Rattle.glk_pctab.specs.Functions.{Pclntab}
use Rattle.glk_pctab.specs.Section.{section, starts, start_in}
use Rattle.glk_pctab.specs.Sound.{AreApart, section_limit}
use Rattle.glk_pctab.specs.Views.{start_by}
use Rattle.glk_pctab.proofs.SectionLemmas.{length_starts, functab_before, pclntable_end}
use Rattle.glk_pcln.specs.Pieces.{buckets}

module _ (t : Pclntab) where
  start_is : (j : ℕ) → j < length (starts t.functions) → start_by (starts t.functions) j ≡ start_in t j
  start_is j low = get_or_default (starts t.functions) j 0 t.text_size low

  apart_starts : AreApart t → AreFarApart (start_by (starts t.functions)) (length (starts t.functions))
  apart_starts is = λ j low.
      omega (arith, start_is j (omega arith), start_is (j + 1) low, is.apart j (omega (arith, low, length_starts t)))

pub apart_by : (t : Pclntab) (xs : List ℕ) → xs ≡ starts t.functions → AreApart t → AreFarApart (start_by xs) (length xs)
apart_by t xs e is = let P : List ℕ → Type 0 = λ ys. AreFarApart (start_by ys) (length ys) in subst P (sym e) (apart_starts t is)

pub first_by : (t : Pclntab) (xs : List ℕ) → xs ≡ starts t.functions → AreApart t → 0 < length t.functions → start_by xs 0 ≡ 0
first_by t xs e is some =
    let P : List ℕ → Type 0 = λ ys. start_by ys 0 ≡ 0 in subst P (sym e) (start_is t 0 (omega (arith, some, length_starts t)) ∙ is.first)

pub long_by : (t : Pclntab) (xs : List ℕ) → xs ≡ starts t.functions → length xs ≡ length t.functions
long_by t xs e = ap length e ∙ length_starts t

pub few_by : (t : Pclntab) (xs : List ℕ) → xs ≡ starts t.functions → length (section t) < section_limit → length xs < 2 ^ 32
few_by t xs e short = omega (arith, long_by t xs e, functab_before t, pclntable_end t, short)

pub made_by : (t : Pclntab) (xs : List ℕ) → xs ≡ starts t.functions → findfunctab (start_by xs) (length xs) t.text_size ≡ buckets t
unfolding buckets
made_by t xs e =
    let P : List ℕ → Type 0 = λ ys. findfunctab (start_by ys) (length ys) t.text_size ≡ findfunctab (start_in t) (length t.functions) t.text_size in
    subst P (sym e)
    (findfunctab_same (start_by (starts t.functions)) (start_in t) (length (starts t.functions)) t.text_size (λ j low. start_is t j low)
    ∙ ap (λ n. findfunctab (start_in t) n t.text_size) (length_starts t))

pub made_all : (t : Pclntab) (xs none made : List ℕ) → xs ≡ starts t.functions → none ≡ [] → made ≡ none ++ findfunctab (start_by xs) (length xs) t.text_size → made ≡ buckets t
made_all t xs none made e n m = m ∙ ap (λ ys. ys ++ findfunctab (start_by xs) (length xs) t.text_size) n ∙ made_by t xs e
