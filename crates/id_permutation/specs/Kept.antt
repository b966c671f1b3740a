-- How orders are kept. No public clause cites this module.
use Rattle.std.specs.Prelude.{◌≡◌, ℕ, ◌+◌, ◌<◌, ◌≤◌, ◌^◌, None, Some, List, [], length}
use Rattle.std.specs.List.{slice_range, All}
use Rattle.std.proofs.Math.ListN.{get_or}
use Rattle.id_permutation.specs.Placement.{height_of, width_of}
use Rattle.id_permutation.specs.Tables.{table_entries, tables_of}
use Rattle.id_permutation.specs.Order.{Arrangement}
use Rattle.id_permutation.specs.declared.forms.Form.{Form}
use Rattle.id_permutation.specs.declared.forms.Form.TheVariants.{InPlace, Rounds, Tables}
use Rattle.id_permutation.specs.declared.kept.KeptOrder.{KeptOrder}

-- the order of this form by this seed
abbrev pub arrangement_by : Form → ℕ → Arrangement
arrangement_by (InPlace size) seed = record { size = size; seed = None }
arrangement_by (Rounds size) seed = record { size = size; seed = Some seed }
arrangement_by (Tables size) seed = record { size = size; seed = Some seed }

-- how many entries the tables of an order of this form have
abbrev pub form_entries : Form → ℕ
form_entries (InPlace size) = 0
form_entries (Rounds size) = 0
form_entries (Tables size) = table_entries size

-- the tables of the order of this form by this seed
abbrev pub tables_by : Form → ℕ → List ℕ
tables_by (InPlace size) seed = []
tables_by (Rounds size) seed = []
tables_by (Tables size) seed = tables_of (height_of size) (width_of size) seed

-- the form is one for permutations of n numbers
abbrev pub IsFormOf : ℕ → Form → Type 0
IsFormOf n form = (seed : ℕ) → arrangement_by form seed ≡ record { size = n; seed = Some seed }

-- by tables there are at most 2^32 numbers
abbrev pub IsSmall : Form → Type 0
IsSmall (InPlace size) = Unit {0}
IsSmall (Rounds size) = Unit {0}
IsSmall (Tables size) = size ≤ 2 ^ 32

-- and the entries are counted in 32 bits, after as many as are kept
abbrev pub IsCountable : Form → ℕ → Type 0
IsCountable (InPlace size) kept = Unit {0}
IsCountable (Rounds size) kept = Unit {0}
IsCountable (Tables size) kept = (size ≤ 2 ^ 32) × (kept + table_entries size < 2 ^ 32)

-- form k of a list that has one
abbrev pub form_at : List Form → ℕ → Form
form_at forms k = get_or forms k (InPlace 0)

-- no form of the one list stands elsewhere in the other
pub record AreMore (forms more : List Form) : Type 0 where
  pub longer : length forms ≤ length more
  pub same : (k : ℕ) → k < length forms → form_at more k ≡ form_at forms k

-- the order that is kept so
abbrev pub arrangement_of : List Form → KeptOrder → Arrangement
arrangement_of forms order = arrangement_by (form_at forms order.form) order.seed

-- its form is there, and its tables stand among the entries
pub record IsKeptOrder (forms : List Form) (entries : List ℕ) (order : KeptOrder) : Type 0 where
  pub known : order.form < length forms
  pub within : order.first + form_entries (form_at forms order.form) ≤ length entries
  pub exact : slice_range entries order.first (order.first + form_entries (form_at forms order.form)) ≡ tables_by (form_at forms order.form) order.seed

-- so does each order, and the entries are counted in 32 bits
pub record AreKept (forms : List Form) (entries : List ℕ) (orders : List KeptOrder) : Type 0 where
  pub each : All (IsKeptOrder forms entries) orders
  pub counted : length entries < 2 ^ 32
