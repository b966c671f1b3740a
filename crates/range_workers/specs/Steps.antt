-- What a step on the word of a claim table tells the seat that takes it.
use Rattle.std.specs.Prelude.{◌≡◌, ◌≤◌, ℕ}
use Rattle.atomic_table.specs.Table.{Me}
use Rattle.range_workers.specs.declared.view.View.{View}
use Rattle.range_workers.specs.Rule.{AreAllBelow}
use Rattle.range_workers.specs.Views.{from_of, numbers, with_number}

-- the number that stood in the word is the seat's
pub record TellsNumber (before : Me (Unit {0}) View) (n : ℕ) (after : Me (Unit {0}) View) : Type 0 where
  pub number : after.0 ≡ with_number n before.0
  pub from : from_of before.0 ≤ n
  pub slots : after.1 ≡ before.1

-- the seat has all numbers below the word
pub record TellsAll (before : Me (Unit {0}) View) (n : ℕ) (after : Me (Unit {0}) View) : Type 0 where
  pub same : after.0 ≡ before.0
  pub all : AreAllBelow n (numbers before.0)
  pub slots : after.1 ≡ before.1
