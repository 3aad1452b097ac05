-- Several polls of a link, one after the other.
use Rattle.std.specs.Prelude.{ℕ, zero, suc}
use Rattle.links.specs.Meaning.{LinkKind}

unfoldable pub polled_times : (K : LinkKind) → ℕ → K.State → K.State
polled_times K zero s = s
polled_times K (suc n) s = K.polled (polled_times K n s)
