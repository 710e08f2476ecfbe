-- What a section can be measured of.
use Rattle.std.specs.Prelude.{ℕ, ◌<◌, ◌^◌, length}
use Rattle.glk_pctab.specs.Functions.{Pclntab, Function, function, pcdata_of, funcdata_of}

-- a function's unit is one of so many, and its pcdata and funcdata are few
pub record HasFewParts (units : ℕ) (f : Function) : Type 0 where
  pub unit : f.unit < units
  pub pcdata : length (pcdata_of f) < 2 ^ 16
  pub funcdata : length (funcdata_of 0 f) < 2 ^ 8

abbrev pub AreFew : Pclntab → Type 0
AreFew t = (i : ℕ) → i < length t.functions → HasFewParts (length t.units) (function t i)
