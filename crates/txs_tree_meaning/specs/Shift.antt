-- Trees in which more locals come in, as where a tree gets a new enclosing let.
use Rattle.std.specs.Prelude.{ℕ, ◌+◌, nat_lt, if◌then◌else◌}
use Rattle.txs_tree_meaning.specs.Tree.{Tree, Const, Local, If, Do, Let, Loop, Recur, Core, Call, VectorOf, Println, Dosync, Look, Put, Update, Send, Trees, none, more}

-- the number of a local where k locals come in before those from c on
abbrev pub moved : ℕ → ℕ → ℕ → ℕ
moved c k i = if nat_lt i c then i else i + k

abbrev mutual
  -- a tree where k locals come in before those from c on
  pub shifted : ℕ → ℕ → Tree → Tree
  shifted c k (Const v m) = Const v m
  shifted c k (Local i m) = Local (moved c k i) m
  shifted c k (If t a b m) = If (shifted c k t) (shifted c k a) (shifted c k b) m
  shifted c k (Do items m) = Do (all_shifted c k items) m
  shifted c k (Let values body m) = Let (all_shifted c k values) (shifted c k body) m
  shifted c k (Loop values body m) = Loop (all_shifted c k values) (shifted c k body) m
  shifted c k (Recur values m) = Recur (all_shifted c k values) m
  shifted c k (Core op args m) = Core op (all_shifted c k args) m
  shifted c k (Call f args m) = Call f (all_shifted c k args) m
  shifted c k (VectorOf items m) = VectorOf (all_shifted c k items) m
  shifted c k (Println args m) = Println (all_shifted c k args) m
  shifted c k (Dosync body m) = Dosync (shifted c k body) m
  shifted c k (Look form cell m) = Look form (shifted c k cell) m
  shifted c k (Put form cell value m) = Put form (shifted c k cell) (shifted c k value) m
  shifted c k (Update form cell callee args m) = Update form (shifted c k cell) callee (all_shifted c k args) m
  shifted c k (Send cell callee args m) = Send (shifted c k cell) callee (all_shifted c k args) m

  -- each of these
  pub all_shifted : ℕ → ℕ → Trees → Trees
  all_shifted c k none = none
  all_shifted c k (more e rest) = more (shifted c k e) (all_shifted c k rest)
