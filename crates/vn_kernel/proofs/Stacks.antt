-- A living stack, by its number and by its path.
use Rattle.std.proofs.Common.{◌≡◌, ℕ, ◌<◌, true, length, refl, sym, ap, ◌∙◌, subst}
use Rattle.vn_types.specs.Paths.{Path}
use Rattle.vn_jail.specs.Tree.{at, is_alive, number_of, path_at}
use Rattle.vn_jail.proofs.Numbers.{is-alive, number-is, within}
use Rattle.vn_kernel.specs.Fields.{Fields}
use Rattle.vn_kernel.specs.Stands.{HasStack, Stands}
use Rattle.vn_kernel.proofs.moving.Refused.{number-lives, number-path}

-- its number is one of those that are given
pub its-number : {n : ℕ} {f : Fields} → HasStack n f → n < length f.jails
its-number {n} {f} h = within f.jails n h.alive

-- its path lives, and has its number
pub its-path : {n : ℕ} {f : Fields} → HasStack n f → (is_alive (path_at f.jails n) f.jails ≡ true) × (n ≡ number_of (path_at f.jails n) f.jails)
its-path {n} {f} h = (
  is-alive f.jails h.stands.linked (path_at f.jails n) n (its-number h) refl ∙ h.alive,
  sym (number-is f.jails h.stands.linked (path_at f.jails n) n (its-number h) refl),
)

-- the path that it has lives
pub own-lives : {n : ℕ} {f : Fields} → HasStack n f → (p : Path) → path_at f.jails n ≡ p → is_alive p f.jails ≡ true
own-lives {n} {f} h p own = subst (λ q. is_alive q f.jails ≡ true) own (its-path h).0

module _ {f : Fields} (s : Stands f) (p : Path) (alive : is_alive p f.jails ≡ true) (n : ℕ) (number : n ≡ number_of p f.jails) where
  -- the number of a living path has a stack
  pub has-stack : HasStack n f
  has-stack = record { stands = s; alive = ap (λ m. (at f.jails m).alive) number ∙ number-lives s p alive }

  -- whose path it is
  pub own-path : path_at f.jails n ≡ p
  own-path = ap (path_at f.jails) number ∙ number-path s p alive
