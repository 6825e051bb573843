-- How a word is written.
use Rattle.std.specs.Prelude.{ℕ, ◌-◌, ◌^◌, true, false, List, []}
use Rattle.std.specs.Fmt.{digits, padded_integral, format_spec}

-- in four upper-case hexadecimal digits, as `{:04X}` prints it
abbrev pub hex_word : ℕ → List ℕ
hex_word w = padded_integral (format_spec 32 0 4 4 (2 ^ 64 - 1)) false [] (digits 16 true w)
