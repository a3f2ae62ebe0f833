-- What a loop from the end gathers: an operation folded over the values from some place on.
--   from f n i               over f i, …, f (n − 1)
--   from_end, from_step, from_zero      at the end, one step to the front, and over all
use Rattle.std.specs.Prelude.{◌≡◌, ℕ, zero, suc, ◌+◌, ◌-◌, ◌≤◌, ◌<◌}
use Rattle.std.proofs.Common.{sym, ap, ap₂, ◌∙◌, add-zero, zero-add, add-suc, suc-add, arith}
use Rattle.std.proofs.Math.Path.{fun_ext}
use Rattle.std.proofs.Math.Nat.{sub_self, sub-zero}

sub_suc : (n j : ℕ) → suc j ≤ n → n - j ≡ suc (n - suc j)
sub_suc n j h = omega arith

module _ {A : Type 0} (fold : ℕ → (ℕ → A) → A) where
  abbrev pub from : (ℕ → A) → ℕ → ℕ → A
  from f n i = fold (n - i) (λ t. f (i + t))

  -- From 0 on it is over all.
  pub from_zero : (f : ℕ → A) (n : ℕ) → from f n 0 ≡ fold n f
  from_zero f n = ap₂ fold (sub-zero n) (fun_ext (λ t. ap f (zero-add t)))

  module _ (op : A → A → A) (end : A) (at_zero : (f : ℕ → A) → fold zero f ≡ end)
      (at_suc : (n : ℕ) (f : ℕ → A) → fold (suc n) f ≡ op (f zero) (fold n (λ t. f (suc t)))) where
    -- At the end there is nothing, …
    pub from_end : (f : ℕ → A) (n : ℕ) → from f n n ≡ end
    from_end f n = ap (λ k. fold k (λ t. f (n + t))) (sub_self n) ∙ at_zero (λ t. f (n + t))

    from_suc : (f : ℕ → A) (n j : ℕ) → suc j ≤ n → from f n j ≡ op (f j) (from f n (suc j))
    from_suc f n j b =
        ap (λ k. fold k (λ t. f (j + t))) (sub_suc n j b)
        ∙ at_suc (n - suc j) (λ t. f (j + t))
        ∙ ap₂ (λ x g. op x (fold (n - suc j) g)) (ap f (add-zero j)) (fun_ext (λ t. ap f (add-suc j t ∙ sym (suc-add j t))))

    -- … and a step to the front takes the value there to what was gathered.
    pub from_step : (f : ℕ → A) (n j : ℕ) → 0 < j → j ≤ n → op (f (j - 1)) (from f n j) ≡ from f n (j - 1)
    from_step f n j h b =
        let e : j ≡ suc (j - 1) = omega arith in
        ap (λ x. op (f (j - 1)) (from f n x)) e ∙ sym (from_suc f n (j - 1) (omega arith))
