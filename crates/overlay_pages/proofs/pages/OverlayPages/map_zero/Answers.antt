use Rattle.overlay_pages.proofs.Common.{◌≡◌, refl, sym, ap, subst, ◌∙◌}
use Rattle.overlay_pages.proofs.Books.{holds_space, page_in, with_zero_pages}
use Rattle.overlay_pages.proofs.Views.{IsJoined, MemoryView, state_of, view_of, with_zeros, state_holds, state_zero}
use Rattle.overlay_pages.proofs.Results.{either, on_ok}
use Rattle.overlay_pages.proofs.Tables.{none_back}
use Rattle.overlay_pages.proofs.Zeros.{is_inside, zeros_joined}
use Rattle.overlay_pages.proofs.pages.OverlayPages.map_zero.Goals as goal

pub invariant_of-self : goal.invariant_of-self
invariant_of-self c =
    either (IsJoined (view_of c.self.inside.store c.map_zero.new.self)) (c.map_zero.new.self ≡ with_zero_pages c.self.inside.ledger c.args.space c.args.page c.args.n (record { perms = c.args.perms; frame = c.self.inside.ledger.zero_frame })) (c.map_zero.new.self ≡ c.self.inside.ledger)
    c.map_zero.result c.map_zero.ensures.mapped c.map_zero.ensures.kept
    (λ mapped. subst (λ t. IsJoined (view_of c.self.inside.store t)) (sym mapped) (zeros_joined c.args.n c.args.page c.self.inside.store c.self.inside.ledger c.args.space (record { perms = c.args.perms; frame = c.self.inside.ledger.zero_frame }) c.self.invariant (sym (state_holds (view_of c.self.inside.store c.self.inside.ledger) c.args.space) ∙ ap (λ (m : MemoryView). holds_space (state_of m) c.args.space) c.self.view_is ∙ c.requires.there) c.requires.low
    (λ page low high. none_back (view_of c.self.inside.store c.self.inside.ledger) c.args.space page (ap (λ (m : MemoryView). page_in (state_of m) c.args.space page) c.self.view_is ∙ c.requires.absent page (is_inside c.args.page c.args.n page low high))) refl).0)
    (λ kept. subst (λ t. IsJoined (view_of c.self.inside.store t)) (sym kept) c.self.invariant)

pub returns-clause-mapped : goal.returns-clause-mapped
returns-clause-mapped c = on_ok c.map_zero.result c.map_zero.ensures.mapped
    (λ mapped.
    ap (λ t. state_of (view_of c.self.inside.store t)) mapped
    ∙ (zeros_joined c.args.n c.args.page c.self.inside.store c.self.inside.ledger c.args.space (record { perms = c.args.perms; frame = c.self.inside.ledger.zero_frame }) c.self.invariant (sym (state_holds (view_of c.self.inside.store c.self.inside.ledger) c.args.space) ∙ ap (λ (m : MemoryView). holds_space (state_of m) c.args.space) c.self.view_is ∙ c.requires.there) c.requires.low
    (λ page low high. none_back (view_of c.self.inside.store c.self.inside.ledger) c.args.space page (ap (λ (m : MemoryView). page_in (state_of m) c.args.space page) c.self.view_is ∙ c.requires.absent page (is_inside c.args.page c.args.n page low high))) refl).1
    ∙ ap (λ z. with_zeros (state_of (view_of c.self.inside.store c.self.inside.ledger)) c.args.space c.args.page c.args.n (record { perms = c.args.perms; frame = z })) (sym (state_zero (view_of c.self.inside.store c.self.inside.ledger)))
    ∙ ap (λ (m : MemoryView). with_zeros (state_of m) c.args.space c.args.page c.args.n (record { perms = c.args.perms; frame = (state_of m).zero_frame })) c.self.view_is)
