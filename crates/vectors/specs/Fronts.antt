-- Texts that begin with others.
use Rattle.std.specs.Prelude.{◌≡◌, ℕ, List, length, take}

-- the first text begins with the second
abbrev pub Starts : List ℕ → List ℕ → Type 0
Starts text front = take (length front) text ≡ front
