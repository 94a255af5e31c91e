-- A pass and the intake were one seat that loaded `claimed`, and are two again.
use Rattle.std.proofs.Common.{◌≡◌, ℕ, ◌+◌, ◌++◌, true, false, sym, ap, ◌∙◌, subst, arith}
use Rattle.pblk_model.specs.RingState.{between, covers}
use Rattle.write_ring.specs.declared.view.Part.{Part}
use Rattle.write_ring.specs.declared.view.View.{View}
use Rattle.write_ring.specs.Handles.{AreAllClaims, IsSamePart}
use Rattle.write_ring.specs.Steps.{IsOfClass, no_desk, only_intake, saw_claimed, with_intake, without_intake}
use Rattle.write_ring.specs.Tells.{SeesClaimed}
use Rattle.write_ring.proofs.ClaimLists.{covers_both}
use Rattle.write_ring.proofs.Classes.{parted_copies, parted_pass}

module _ (v i : View) (n : ℕ) (users : IsOfClass false v.pass) (copies : IsOfClass true i.pass) (one : i.pass.shares ≡ 1) where
  pub pass_again : (u : View) → u ≡ without_intake (saw_claimed (with_intake v i) n) → v.pass.copier ≡ false → u.pass ≡ v.pass
  pass_again u is no_copier = ap (λ (k : View). k.pass) is ∙ parted_pass v.pass i.pass users copies no_copier one

  -- the pass is as it was, but for what it found
  pub view_again : (u : View) → u ≡ without_intake (saw_claimed (with_intake v i) n) → v.pass.copier ≡ false → v.intake ≡ no_desk → u ≡ saw_claimed v n
  view_again u is no_copier only =
      let w = saw_claimed v n in
      is ∙ ap (λ q. record w { pass = q; intake = no_desk }) (parted_pass v.pass i.pass users copies no_copier one)
      ∙ ap (λ d. record w { intake = d }) (sym only)

  pub copies_again : (u : View) → u ≡ only_intake (saw_claimed (with_intake v i) n) → IsSamePart i.pass u.pass
  copies_again u is = subst (λ (k : View). IsSamePart i.pass k.pass) (sym is) (parted_copies v.pass i.pass users copies one)

  pub all_again : (u : View) → u ≡ with_intake v i → v.pass.shares ≡ 127 → SeesClaimed u n → (p q : Part) → p.claims ≡ v.pass.claims
      → q.claims ≡ i.pass.claims → AreAllClaims v.key.first n p q
  all_again u is most sees p q same_claims same_copies x =
      let shares : u.pass.shares ≡ v.pass.shares + i.pass.shares = ap (λ (k : View). k.pass.shares) is in
      let all = sees.all (omega arith) x in
      let claims : covers x u.pass.claims ≡ covers x (v.pass.claims ++ i.pass.claims) = ap (λ (k : View). covers x k.pass.claims) is in
      let first : between u.key.first n x ≡ between v.key.first n x = ap (λ (k : View). between k.key.first n x) is in
      let both = covers_both x v.pass.claims i.pass.claims in
      let mine : covers x p.claims ≡ covers x v.pass.claims = ap (covers x) same_claims in
      let its : covers x q.claims ≡ covers x i.pass.claims = ap (covers x) same_copies in
      omega arith
