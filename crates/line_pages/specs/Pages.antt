-- What a page buffer holds.
use Rattle.std.specs.Prelude.{◌≡◌, ◌≤◌, ◌+◌, ℕ, List}

-- its text so far, and the most bytes that it can hold
pub record Page : Type 0 where
  pub text : List ℕ
  pub room : ℕ

-- the text is within the room, after which lie the bytes that a piece may overwrite
pub record IsWithinRoom (len room size : ℕ) : Type 0 where
  pub text : len ≤ room
  pub slack : size ≡ room + 16
