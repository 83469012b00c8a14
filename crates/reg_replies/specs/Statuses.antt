-- The statuses of replies and their reasons (RFC 9110, section 15; RFC 6585, section 5; RFC 4918, section 11.5).
use Rattle.std.specs.Prelude.{ℕ, List, codes}
use Rattle.reg_replies.specs.declared.status.Status.{Status}
use Rattle.reg_replies.specs.declared.status.Status.TheVariants as status

-- the number of the status and its reason
abbrev pub line_of : Status → List ℕ
line_of status.Done = codes "200 OK"
line_of status.Created = codes "201 Created"
line_of status.Accepted = codes "202 Accepted"
line_of status.NoContent = codes "204 No Content"
line_of status.BadRequest = codes "400 Bad Request"
line_of status.NotFound = codes "404 Not Found"
line_of status.MethodNotAllowed = codes "405 Method Not Allowed"
line_of status.Conflict = codes "409 Conflict"
line_of status.ContentTooLarge = codes "413 Content Too Large"
line_of status.RangeNotSatisfiable = codes "416 Range Not Satisfiable"
line_of status.HeadTooLarge = codes "431 Request Header Fields Too Large"
line_of status.InternalServerError = codes "500 Internal Server Error"
line_of status.ServiceUnavailable = codes "503 Service Unavailable"
line_of status.InsufficientStorage = codes "507 Insufficient Storage"
