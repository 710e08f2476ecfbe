-- How long files may be, and how many functions a generated world may have.
use Rattle.std.specs.Prelude.{ℕ, ◌^◌}

-- an archive has at most this many bytes, and so have all package files of a link together
abbrev pub file_limit : ℕ
file_limit = 2 ^ 30

-- a generated world has at most this many functions
abbrev pub function_limit : ℕ
function_limit = 200000
