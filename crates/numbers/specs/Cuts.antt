-- A text cut in two where a byte passes a test for the first time. A text is the list of its bytes.
use Rattle.std.specs.Prelude.{ℕ, Bool, false, cond, List, [], ◌∷◌}

-- the bytes before the first that passes the test: all of them where none does
abbrev pub before_first : (ℕ → Bool) → List ℕ → List ℕ
before_first test [] = []
before_first test (c ∷ cs) = cond (test c) [] (c ∷ before_first test cs)

-- the bytes from the first that passes the test on: none where none does
abbrev pub from_first : (ℕ → Bool) → List ℕ → List ℕ
from_first test [] = []
from_first test (c ∷ cs) = cond (test c) (c ∷ cs) (from_first test cs)

-- whether the first byte is there and passes the test
abbrev pub begins : (ℕ → Bool) → List ℕ → Bool
begins test [] = false
begins test (c ∷ cs) = test c

-- the text without its first byte where that passes the test, else the text
abbrev pub without : (ℕ → Bool) → List ℕ → List ℕ
without test [] = []
without test (c ∷ cs) = cond (test c) cs (c ∷ cs)
