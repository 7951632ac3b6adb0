-- What each command leaves of the desks is in order.
use Rattle.std.proofs.Common.{◌≡◌, Bool, true, false, List, reverse, None, Some, Option, sym, refl, subst}
use Rattle.std.proofs.lemmas.Bool.{true≢false}
use Rattle.sheet.specs.declared.xf.Xf.{Xf}
use Rattle.replicas.specs.Stands.{Stands}
use Rattle.intake.specs.declared.style.Style.{Style}
use Rattle.intake.specs.declared.desk.Desk.{Desk}
use Rattle.intake.specs.declared.desks.Desks.{Desks}
use Rattle.intake.specs.declared.command.DeskName.{DeskName}
use Rattle.intake.specs.declared.command.DeskName.TheVariants.{Loader, Floor}
use Rattle.intake.specs.Desks.{calls_of, SameDesk, SameRoom, InStep}
use Rattle.intake.specs.Places.{desk_at, other_desk, with_desk}
use Rattle.intake.specs.Order.{Sound, InOrder}
use Rattle.std.proofs.Math.Logic.{∥∥₁_map}

same_step : (palette : List (Xf Style)) (d d' : Desk) → SameDesk d d' → SameRoom d d' → InStep palette d → InStep palette d'
same_step palette d d' same same_room st =
    subst (λ r. Stands palette r.cells r.runs (reverse (calls_of d')) d'.sheet) (sym same_room)
    (subst (λ s. Stands palette d.room.cells d.room.runs (reverse (calls_of d')) s) (sym same.1)
    (subst (λ calls. Stands palette d.room.cells d.room.runs (reverse calls) d.sheet) (sym same.0) st))

same_sound : (palette : List (Xf Style)) (called : Bool) (o : Option Desk) (d d' : Desk) → o ≡ Some d → SameDesk d d' → SameRoom d d' → Sound palette called o → Sound palette called (Some d')
same_sound palette called o d d' there same same_room s =
    let before = subst (λ x. Sound palette called x) there s in
    (same_step palette d d' same same_room before.0, λ uncalled any. same_step any d d' same same_room (before.1 uncalled any))

-- the other desk stays, and what is put at a name is sound
with_sound : (palette : List (Xf Style)) (called : Bool) (name : DeskName) (desks : Desks) (w : Option Desk) → Sound palette called w → Sound palette called (other_desk name desks)
    → InOrder palette called (with_desk name desks w)
with_sound palette called Loader desks w one other = (one, other)
with_sound palette called Floor desks w one other = (other, one)

at_name : (palette : List (Xf Style)) (called : Bool) (name : DeskName) (desks : Desks) → InOrder palette called desks → Sound palette called (desk_at name desks) × Sound palette called (other_desk name desks)
at_name palette called Loader desks order = (order.0, order.1)
at_name palette called Floor desks order = (order.1, order.0)

-- once a call was made, less is asked
later : (palette : List (Xf Style)) (called : Bool) (o : Option Desk) → Sound palette called o → Sound palette true o
later palette called None s = tt
later palette called (Some d) s = (s.0, λ e. absurd (true≢false e))

-- before the first call the palette may change
other_palette : (palette palette' : List (Xf Style)) (o : Option Desk) → Sound palette false o → Sound palette' false o
other_palette palette palette' None s = tt
other_palette palette palette' (Some d) s = (s.1 refl palette', s.1)

module _ (palette : List (Xf Style)) (called : Bool) (name : DeskName) (desks : Desks) where
  pub left_alone : (w : Option Desk) → w ≡ desk_at name desks → ∥ InOrder palette called desks ∥₁ → ∥ InOrder palette called (with_desk name desks w) ∥₁
  left_alone w same order =
      ∥∥₁_map order (λ (o : InOrder palette called desks).
      let both = at_name palette called name desks o in
      with_sound palette called name desks w (subst (λ x. Sound palette called x) (sym same) both.0) both.1)

  pub opened : (d : Desk) → ((any : List (Xf Style)) → InStep any d) → ∥ InOrder palette called desks ∥₁ → ∥ InOrder palette called (with_desk name desks (Some d)) ∥₁
  opened d new order =
      ∥∥₁_map order (λ (o : InOrder palette called desks). with_sound palette called name desks (Some d) (new palette, λ _. new) (at_name palette called name desks o).1)

  -- a call that found no memory to be recorded was not made
  pub not_made : (d d' : Desk) → desk_at name desks ≡ Some d → SameDesk d d' → SameRoom d d' → ∥ InOrder palette called desks ∥₁ → ∥ InOrder palette called (with_desk name desks (Some d')) ∥₁
  not_made d d' there same same_room order =
      ∥∥₁_map order (λ (o : InOrder palette called desks).
      let both = at_name palette called name desks o in
      with_sound palette called name desks (Some d') (same_sound palette called (desk_at name desks) d d' there same same_room both.0) both.1)

  pub made : (d d' : Desk) → desk_at name desks ≡ Some d → (InStep palette d → InStep palette d') → ∥ InOrder palette called desks ∥₁ → ∥ InOrder palette true (with_desk name desks (Some d')) ∥₁
  made d d' there step order =
      ∥∥₁_map order (λ (o : InOrder palette called desks).
      let both = at_name palette called name desks o in
      let before = subst (λ x. Sound palette called x) there both.0 in
      with_sound palette true name desks (Some d') (step before.0, λ e. absurd (true≢false e)) (later palette called (other_desk name desks) both.1))

-- an entry is added before the first call
pub added : (palette palette' : List (Xf Style)) (called : Bool) (desks : Desks) → called ≡ false → ∥ InOrder palette called desks ∥₁ → ∥ InOrder palette' called desks ∥₁
added palette palette' called desks uncalled order =
    ∥∥₁_map order (λ (o : InOrder palette called desks).
    let before = subst (λ b. InOrder palette b desks) uncalled o in
    subst (λ b. InOrder palette' b desks) (sym uncalled) (other_palette palette palette' desks.loader before.0, other_palette palette palette' desks.floor before.1))
