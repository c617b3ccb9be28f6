use Rattle.std.proofs.Common.{◌≡◌, ◌++◌, ◌∷◌, [], rules}
use Rattle.std.specs.Int.{w32, w64, to_le_bytes}
use Rattle.delta_image.proofs.Pages.{head_put, vector_of}
use Rattle.delta_image.proofs.encoding.put_head.Goals as goal

pub returns : goal.returns
returns c =
    let out = c.args.out.now.items in
    let page = c.args.page.now in
    let first : c.extend_from_slice.new.self.items ≡ out ++ to_le_bytes w32 page.page = search rules in
    let second : c.push.new.self.items ≡ c.extend_from_slice.new.self.items ++ page.perms.0 ∷ [] = search rules in
    let third : c.extend_from_slice-2.new.self.items ≡ c.push.new.self.items ++ to_le_bytes w64 c.vector_of-vector.result = search rules in
    let vector : c.vector_of-vector.result ≡ vector_of page = search rules in
    head_put out _ _ _ page c.vector_of-vector.result first second third vector
