-- Word lists: texts with weights.
use Rattle.std.specs.Prelude.{◌≡◌, ℕ, ◌≤◌, ◌^◌, List, All, IsUtf8, length, sum}

-- the entries, each as its bytes, and the weights, one for each entry
pub record WordList : Type 0 where
  pub entries : List (List ℕ)
  pub weights : List ℕ

-- there are 1 to 1,000,000 entries, each of at most 255 bytes in UTF-8, and as many weights, each from 1 to 1,000,000
pub record IsWordList (list : WordList) : Type 0 where
  pub some : 1 ≤ length list.entries
  pub few : length list.entries ≤ 1000000
  pub short : All (λ entry. length entry ≤ 255) list.entries
  pub utf8 : All IsUtf8 list.entries
  pub paired : length list.weights ≡ length list.entries
  pub positive : All (λ weight. 1 ≤ weight) list.weights
  pub light : All (λ weight. weight ≤ 1000000) list.weights
  pub small : sum list.weights ≤ 2 ^ 40
