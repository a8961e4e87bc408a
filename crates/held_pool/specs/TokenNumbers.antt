-- The numbers in a list of tokens.
use Rattle.std.specs.Prelude.{◌≡◌, ◌⊎◌, ℕ, List, [], ◌∷◌, Option, Some, None, Box}
use Rattle.held_pool.specs.declared.token_node.Node.{Node, Node', Held-Node-next, None', Some'}

abbrev mutual
  pub numbers_from : Node → List ℕ
  numbers_from (Node' number next) = number ∷ numbers_behind next

  numbers_behind : Held-Node-next → List ℕ
  numbers_behind None' = []
  numbers_behind (Some' p node) = numbers_from node

abbrev pub numbers_in : {A : Type 0} → Option (Box Node A) → List ℕ
numbers_in None = []
numbers_in (Some first) = numbers_from first.value

-- The next of those gathered is told; where none was left, others were gathered before.
abbrev pub IsNext : List ℕ → ℕ → List ℕ → Type 0
IsNext old token new = (old ≡ token ∷ new) ⊎ (old ≡ [])
