-- Byte order, computed. Assumes nothing.
use mathlib.Core.Path.{◌≡◌, refl}
use mathlib.Core.Bool.{true, false}
use mathlib.Core.List.{[], ◌∷◌}
use Rattle.byte_order.specs.ByteOrder.{earlier}

-- the smaller byte at the first place where two lists differ
member_before_spare : earlier (3 ∷ 255 ∷ []) (255 ∷ 0 ∷ []) ≡ true
unfolding earlier
member_before_spare = refl

second_place : earlier (1 ∷ 255 ∷ []) (1 ∷ 0 ∷ []) ≡ false
unfolding earlier
second_place = refl
