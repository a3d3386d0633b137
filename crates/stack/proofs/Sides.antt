-- What a write through two joined memories, each lent, leaves of either, from the clauses that any memory has.
-- Assumes nothing.
use Rattle.std.proofs.Common.{◌≡◌, ℕ, cond, not, ltb, ap, subst, arith}
use Rattle.std.proofs.lemmas.Bool.{eqb-true}
use Rattle.layers.specs.Joined.{joined, joined_rest}
use Rattle.memory.specs.Meaning.{patched}
use Rattle.memory.specs.Rest.{Rest, over, beside, hidden, nowhere}
use Rattle.memory.specs.declared.kind.Kind.{Kind}
use Rattle.layers.specs.Wrote.{Wrote}

-- the words of either one, from the words of both joined and from those that do not show
module _ (at k v mask : ℕ) (kl kr : ℕ → Kind) (wl wr wl' wr' : ℕ → ℕ)
    (a : (j : ℕ) → joined at wl' wr' j ≡ patched (joined at kl kr) (joined at wl wr) k v mask j)
    (hl : hidden (λ j. ltb j at) wl' ≡ hidden (λ j. ltb j at) wl)
    (hr : hidden (λ j. not (ltb j at)) wr' ≡ hidden (λ j. not (ltb j at)) wr) where
  left_after : (j : ℕ) → wl' j ≡ cond (ltb k at) (patched kl wl k v mask j) (wl j)
  left_after j = let p = a j in let q = ap (λ (f : ℕ → ℕ). f j) hl in grind (arith, eqb-true)

  right_after : (j : ℕ) → wr' j ≡ cond (not (ltb k at)) (patched kr wr k v mask j) (wr j)
  right_after j = let p = a j in let q = ap (λ (f : ℕ → ℕ). f j) hr in grind (arith, eqb-true)

-- the parts of the rest of two joined memories, each lent, where the whole is unchanged
record Parts (at at' nl nl' nr nr' : ℕ) (kl kl' kr kr' : ℕ → Kind) (hl hl' hr hr' : ℕ → ℕ) (rl rl' rr rr' : Rest) : Type 0 where
  pub same_at : at' ≡ at
  pub left_name : nl' ≡ nl
  pub right_name : nr' ≡ nr
  pub left_kinds : kl' ≡ kl
  pub right_kinds : kr' ≡ kr
  pub left_hidden : hl' ≡ hl
  pub right_hidden : hr' ≡ hr
  pub left_rest : rl' ≡ rl
  pub right_rest : rr' ≡ rr

parts : {at at' nl nl' nr nr' : ℕ} {kl kl' kr kr' jl jl' jr jr' : ℕ → Kind} {hl hl' hr hr' zl zl' zr zr' : ℕ → ℕ} {rl rl' rr rr' : Rest}
    → beside at' (over 0 0 kl' hl' (over nl' 0 jl' zl' rl')) (over 0 0 kr' hr' (over nr' 0 jr' zr' rr')) ≡ beside at (over 0 0 kl hl (over nl 0 jl zl rl)) (over 0 0 kr hr (over nr 0 jr zr rr))
    → Parts at at' nl nl' nr nr' kl kl' kr kr' hl hl' hr hr' rl rl' rr rr'
parts e = record { same_at = cc; left_name = cc; right_name = cc; left_kinds = cc; right_kinds = cc; left_hidden = cc; right_hidden = cc; left_rest = cc; right_rest = cc }

-- the rest of a lent memory
abbrev pub lent_rest : ℕ → (ℕ → Kind) → Rest → Rest
lent_rest name kinds rest = over name 0 kinds nowhere rest

pub sides : (at at' k v mask nl nl' nr nr' : ℕ) (kl kl' kr kr' : ℕ → Kind) (wl wl' wr wr' : ℕ → ℕ) (rl rl' rr rr' : Rest)
    → ((j : ℕ) → joined at' wl' wr' j ≡ patched (joined at kl kr) (joined at wl wr) k v mask j)
    → joined_rest at' kl' kr' wl' wr' (lent_rest nl' kl' rl') (lent_rest nr' kr' rr') ≡ joined_rest at kl kr wl wr (lent_rest nl kl rl) (lent_rest nr kr rr)
    → (nl' ≡ nl) × (nr' ≡ nr) × Wrote kl wl rl (ltb k at) k v mask kl' wl' rl' × Wrote kr wr rr (not (ltb k at)) k v mask kr' wr' rr'
sides at at' k v mask nl nl' nr nr' kl kl' kr kr' wl wl' wr wr' rl rl' rr rr' a e =
    let p = parts e in
    let s = p.same_at in
    let a1 : (j : ℕ) → joined at wl' wr' j ≡ patched (joined at kl kr) (joined at wl wr) k v mask j = subst (λ (x : ℕ). (j : ℕ) → joined x wl' wr' j ≡ patched (joined at kl kr) (joined at wl wr) k v mask j) s a in
    let hl : hidden (λ j. ltb j at) wl' ≡ hidden (λ j. ltb j at) wl = subst (λ (x : ℕ). hidden (λ j. ltb j x) wl' ≡ hidden (λ j. ltb j at) wl) s p.left_hidden in
    let hr : hidden (λ j. not (ltb j at)) wr' ≡ hidden (λ j. not (ltb j at)) wr = subst (λ (x : ℕ). hidden (λ j. not (ltb j x)) wr' ≡ hidden (λ j. not (ltb j at)) wr) s p.right_hidden in (
      p.left_name,
      p.right_name,
      record { kept = p.left_kinds; after = (left_after at k v mask kl kr wl wr wl' wr' a1 hl hr); rests = p.left_rest },
      record { kept = p.right_kinds; after = (right_after at k v mask kl kr wl wr wl' wr' a1 hl hr); rests = p.right_rest },
    )
