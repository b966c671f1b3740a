-- What is told of readings is the first of them that is wrong.
use Rattle.std.proofs.Common.{◌≡◌, ℕ, suc, ◌+◌, List, [], ◌∷◌, ◌++◌, map, Option, Some, None, refl, sym, ap, ◌∙◌, append_assoc, arith}
use Rattle.std.specs.List.{enumerate_from}
use Rattle.std.specs.Option.{option_or}
use Rattle.std.proofs.lemmas.List.Elements.{All-nil, All-cons, All-append}
use Rattle.toml.specs.Data.{Members}
use Rattle.schema_read.specs.declared.fault.Place.{Place}
use Rattle.schema_read.specs.declared.fault.Wrong.{Wrong}
use Rattle.schema_read.specs.declared.schema_key.SchemaKey.TheVariants as key
use Rattle.schema_read.specs.declared.kind_name.KindName.{KindName}
use Rattle.schema_read.specs.declared.kind_name.KindName.TheVariants.{Case}
use Rattle.schema_read.specs.Order.{AreRight, TellsFirst, place_readings, readings_from, branch_readings, branches_readings, column_readings, table_readings, document_readings}
use Rattle.schema_read.specs.Shape.{top, table_place, column_place, branch_place, top_keys, table_keys, column_keys, branch_keys, kind_of, leaf_of, branch_wrong, branches_wrong, column_wrong, table_wrong, first_wrong_key}
use Rattle.schema_read.specs.Values.{tables}
use Rattle.schema_read.specs.declared.wanted.Wanted.{Wanted}
use Rattle.schema_read.specs.Wanted.{wrong_key, first_of, further_key, first_wrong, each_from}

none_wrong : AreRight []
none_wrong = All-nil (λ (r : Option Wrong). r ≡ None)

one : (a : Option Wrong) → TellsFirst a (a ∷ [])
one None = All-cons (λ (r : Option Wrong). r ≡ None) None [] refl none_wrong
one (Some w) = record { before = []; after = []; in_order = refl; are_right = none_wrong }

-- what is told of readings and then of others
both : (a b : Option Wrong) (xs ys : List (Option Wrong)) → TellsFirst a xs → TellsFirst b ys → TellsFirst (option_or a b) (xs ++ ys)
both None None xs ys h k = All-append (λ (r : Option Wrong). r ≡ None) xs ys h k
both None (Some w) xs ys h k = record {
  before = xs ++ k.before;
  after = k.after;
  in_order = ap (λ (zs : List (Option Wrong)). xs ++ zs) k.in_order ∙ sym (append_assoc xs k.before (Some w ∷ k.after));
  are_right = All-append (λ (r : Option Wrong). r ≡ None) xs k.before h k.are_right;
}
both (Some w) b xs ys h k = record {
  before = h.before;
  after = h.after ++ ys;
  in_order = ap (λ (zs : List (Option Wrong)). zs ++ ys) h.in_order ∙ append_assoc h.before (Some w ∷ h.after) ys;
  are_right = h.are_right;
}

-- what is told of a reading and then of others
then : (a b : Option Wrong) (ys : List (Option Wrong)) → TellsFirst b ys → TellsFirst (option_or a b) (a ∷ ys)
then a b ys k = both a b (a ∷ []) ys (one a) k

pub first_of-first : (p : Place) (ws : List Wanted) (ms : Members) → TellsFirst (first_of p ws ms) (map (λ w. wrong_key p w ms) ws)
first_of-first p [] ms = none_wrong
first_of-first p (w ∷ ws) ms = then (wrong_key p w ms) (first_of p ws ms) (map (λ w. wrong_key p w ms) ws) (first_of-first p ws ms)

pub first_wrong-first : (p : Place) (ws : List Wanted) (ms : Members) → TellsFirst (first_wrong p ws ms) (place_readings p ws ms)
first_wrong-first p ws ms =
    let further = further_key p ws ms in
    both (first_of p ws ms) further (map (λ w. wrong_key p w ms) ws) (further ∷ []) (first_of-first p ws ms) (one further)

pub each_from-first : (wrong : ℕ → Members → Option Wrong) (n : ℕ) (mss : List Members) → TellsFirst (each_from wrong n mss) (map (λ numbered. wrong numbered.0 numbered.1) (enumerate_from n mss))
each_from-first wrong n [] = none_wrong
each_from-first wrong n (ms ∷ mss) =
    let next : n + 1 ≡ suc n = omega arith in
    rw next (then (wrong n ms) (each_from wrong (suc n) mss) (map (λ numbered. wrong numbered.0 numbered.1) (enumerate_from (suc n) mss)) (each_from-first wrong (suc n) mss))

-- of tables, each of which tells its first
tables-first : (wrong : ℕ → Members → Option Wrong) (readings : ℕ → Members → List (Option Wrong)) → ((n : ℕ) (ms : Members) → TellsFirst (wrong n ms) (readings n ms))
    → (n : ℕ) (mss : List Members) → TellsFirst (each_from wrong n mss) (readings_from readings n mss)
tables-first wrong readings first n [] = none_wrong
tables-first wrong readings first n (ms ∷ mss) =
    both (wrong n ms) (each_from wrong (suc n) mss) (readings n ms) (readings_from readings (suc n) mss) (first n ms) (tables-first wrong readings first (suc n) mss)

branch-first : (i j b : ℕ) (ms : Members) → TellsFirst (branch_wrong i j b ms) (branch_readings i j b ms)
branch-first i j b ms = first_wrong-first (branch_place i j b) (branch_keys (leaf_of ms)) ms

branches-first : (i j : ℕ) (k : KindName) (ms : Members) → TellsFirst (branches_wrong i j k ms) (branches_readings i j k ms)
branches-first i j Case ms = tables-first (branch_wrong i j) (branch_readings i j) (branch-first i j) 1 (tables key.Branches ms)
branches-first i j _ ms = none_wrong

column-first : (i j : ℕ) (ms : Members) → TellsFirst (column_wrong i j ms) (column_readings i j ms)
column-first i j ms =
    let k = kind_of ms in
    both (first_wrong (column_place i j) (column_keys k) ms) (branches_wrong i j k ms) (place_readings (column_place i j) (column_keys k) ms) (branches_readings i j k ms)
    (first_wrong-first (column_place i j) (column_keys k) ms) (branches-first i j k ms)

table-first : (i : ℕ) (ms : Members) → TellsFirst (table_wrong i ms) (table_readings i ms)
table-first i ms =
    let inside = tables key.Column ms in
    both (first_wrong (table_place i) table_keys ms) (each_from (column_wrong i) 1 inside) (place_readings (table_place i) table_keys ms) (readings_from (column_readings i) 1 inside)
    (first_wrong-first (table_place i) table_keys ms) (tables-first (column_wrong i) (column_readings i) (column-first i) 1 inside)

pub document-first : (ms : Members) → TellsFirst (first_wrong_key ms) (document_readings ms)
document-first ms =
    let inside = tables key.Table ms in
    both (first_wrong top top_keys ms) (each_from table_wrong 1 inside) (place_readings top top_keys ms) (readings_from table_readings 1 inside)
    (first_wrong-first top top_keys ms) (tables-first table_wrong table_readings table-first 1 inside)
