-- The routes of a registry and their methods (OCI Distribution Specification 1.1, "Endpoints").
use Rattle.std.specs.Prelude.{ℕ, List, [], ◌∷◌, codes}
use Rattle.reg_entries.specs.declared.route.Route.{Route}
use Rattle.reg_entries.specs.declared.route.Route.TheVariants as routes
use Rattle.reg_entries.specs.declared.route.Method.{Method}
use Rattle.reg_entries.specs.declared.route.Method.TheVariants.{Delete, Get, Head, Patch, Post, Put}

-- the methods of a route, in the order of their names
abbrev pub methods_of : Route → List Method
methods_of routes.Base = Get ∷ Head ∷ []
methods_of routes.Blob = Delete ∷ Get ∷ Head ∷ []
methods_of routes.Manifest = Delete ∷ Get ∷ Head ∷ Put ∷ []
methods_of routes.Uploads = Post ∷ []
methods_of routes.Upload = Delete ∷ Get ∷ Head ∷ Patch ∷ Put ∷ []
methods_of routes.Tags = Get ∷ Head ∷ []

-- the name of a method, as a request has it
abbrev pub method_text : Method → List ℕ
method_text Delete = codes "DELETE"
method_text Get = codes "GET"
method_text Head = codes "HEAD"
method_text Patch = codes "PATCH"
method_text Post = codes "POST"
method_text Put = codes "PUT"
