-- A list of which a run of items was made equal.
use Rattle.std.specs.Prelude.{ℕ, ◌-◌, min, List, length, replicate}
use Rattle.std.proofs.Math.Seq.{paste}

-- n items from `at` on are y, the others stay
unfoldable pub run : {X : Type 0} → X → ℕ → ℕ → List X → List X
run y at n xs = paste xs at (replicate n y) n

-- the same, where the list may end before the run does
abbrev pub filled : {X : Type 0} → X → ℕ → ℕ → List X → List X
filled y at n xs = run y at (min n (length xs - at)) xs
