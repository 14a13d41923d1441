-- The variables that an assignment reads, by number and by plain number.
use Rattle.std.proofs.Common.{◌≡◌, ℕ, ◌⊎◌, inl, inr, Bool, List, [], ◌∷◌, map, sym, subst}
use Rattle.ar_base.specs.Numbers.{VarId}
use Rattle.typed_expr.specs.PairsInside.{turned_pairs}
use Rattle.typed_expr.specs.Mentions.{Mentions}
use Rattle.typed_expr.proofs.Renaming.{mentions_carry, renames_turned}
use Rattle.typed_expr.specs.declared.expr.Expr.{Expr, out-Expr}
use Rattle.ar_meaning.specs.Dependence.{Tests, Names, in_this, in_later}
use Rattle.gts_core.specs.View.{numbered, condition_of, assign_of}
use Rattle.gts_core.specs.Named.{ReadsVariable}
use Rattle.gts_core.specs.declared.system.Assign.{Assign}
use Rattle.gts_core.proofs.Numbering.{IsNumber, renames_numbered}

-- a variable by its plain number
pub record ByNumber (P : VarId → Type 0) (x : ℕ) : Type 0 where
  pub variable : VarId
  pub is : variable.n ≡ x
  pub has : P variable

pub mentions_there : (v : VarId) (e : Expr VarId) → Mentions v (out-Expr VarId e)
    → Mentions v.n (out-Expr ℕ (numbered e))
mentions_there v e d = let r = mentions_carry IsNumber v d (renames_numbered e) in subst (λ (z : ℕ). Mentions z (out-Expr ℕ (numbered e))) (sym r.related) r.stands

pub mentions_back : (x : ℕ) (e : Expr VarId) → Mentions x (out-Expr ℕ (numbered e))
    → ByNumber (λ v. Mentions v (out-Expr VarId e)) x
mentions_back x e d = let r = mentions_carry (turned_pairs IsNumber) x d (renames_turned IsNumber (renames_numbered e)) in record { variable = r.other; is = r.related; has = r.stands }

pub tests_there : (v : VarId) (cs : List (Expr VarId × Bool)) → Tests v cs → Tests v.n (map condition_of cs)
tests_there v [] d = elim d [ ]
tests_there v (c ∷ cs) (in_this d) = in_this (mentions_there v c.0 d)
tests_there v (c ∷ cs) (in_later d) = in_later (tests_there v cs d)

tests_head : (x : ℕ) (c : Expr ℕ × Bool) (cs : List (Expr ℕ × Bool)) → Tests x (c ∷ cs)
    → Mentions x (out-Expr ℕ c.0) ⊎ Tests x cs
tests_head x c cs (in_this d) = inl d
tests_head x c cs (in_later d) = inr d

pub tests_back : (x : ℕ) (cs : List (Expr VarId × Bool)) → Tests x (map condition_of cs) → ByNumber (λ v. Tests v cs) x
tests_back x [] d = elim d [ ]
tests_back x (c ∷ cs) d = elim (tests_head x (condition_of c) (map condition_of cs) d) [
  | inl h ↦ (let r = mentions_back x c.0 h in record { variable = r.variable; is = r.is; has = in_this r.has })
  | inr h ↦ (let r = tests_back x cs h in record { variable = r.variable; is = r.is; has = in_later r.has })
]

pub reads_there : (a : Assign) (v : VarId) → ReadsVariable a v → Names (assign_of a) v.n
reads_there a v (inl d) = inl (mentions_there v a.value d)
reads_there a v (inr d) = inr (tests_there v a.when.items d)

pub reads_back : (a : Assign) (x : ℕ) → Names (assign_of a) x → ByNumber (ReadsVariable a) x
reads_back a x (inl d) = let r = mentions_back x a.value d in record { variable = r.variable; is = r.is; has = inl r.has }
reads_back a x (inr d) = let r = tests_back x a.when.items d in record { variable = r.variable; is = r.is; has = inr r.has }
